use Rattle.std.proofs.Common.{◌++◌, ◌∷◌, [], Some, length, nat_eq, ap, ◌∙◌, arith}
use Rattle.std.proofs.lemmas.List.FromFn.{length-map-range_with_len}
use Rattle.std.specs.HashMap.{get as place_at}
use Rattle.slab.specs.Slab.{get as placed_at}
use Rattle.conn_lane.specs.Inner.Placing.{one_of}
use Rattle.conn_lane.proofs.Placing.{put_opened}
use Rattle.conn_lane.proofs.connections.Connections.open.Goals as goal

pub overflow_add-self : goal.overflow_add-self
overflow_add-self c =
    omega (
      arith,
      c.requires.opened,
      length-map-range_with_len (one_of (placed_at c.self.inside.placed) (place_at nat_eq c.self.inside.places)) 0 c.self.inside.opened,
      ap (λ v. length v.kept) c.self.view_is,
    )

pub invariant_of-self : goal.invariant_of-self
invariant_of-self c =
    (put_opened c.self.inside.placed c.insert_reserved-place.new.self c.self.inside.places c.insert-known.new.self c.self.inside.opened c.insert_reserved-place.result c.args.self.now.room c.args.one
    c.insert-known.result c.self.invariant c.insert_reserved-place.ensures.was_vacant c.insert_reserved-place.ensures.updates (ap (λ v. v.room) c.self.view_is) c.requires.room
    c.insert-known.ensures.succeeds c.insert-known.ensures.updates).are

pub returns : goal.returns
returns c =
    (put_opened c.self.inside.placed c.insert_reserved-place.new.self c.self.inside.places c.insert-known.new.self c.self.inside.opened c.insert_reserved-place.result c.args.self.now.room c.args.one
    c.insert-known.result c.self.invariant c.insert_reserved-place.ensures.was_vacant c.insert_reserved-place.ensures.updates (ap (λ v. v.room) c.self.view_is) c.requires.room
    c.insert-known.ensures.succeeds c.insert-known.ensures.updates).kept_is
    ∙ ap (λ v. v.kept ++ Some c.args.one ∷ []) c.self.view_is
