use Rattle.std.proofs.Common.{length, nat_eq, sym, ap, ◌∙◌}
use Rattle.std.proofs.lemmas.List.FromFn.{length-map-range_with_len}
use Rattle.std.specs.HashMap.{get as place_at}
use Rattle.slab.specs.Slab.{get as placed_at}
use Rattle.conn_lane.specs.Inner.Placing.{one_of}
use Rattle.conn_lane.proofs.connections.Connections.opened.Goals as goal

pub returns : goal.returns
returns c =
    sym (length-map-range_with_len (one_of (placed_at c.self.inside.placed) (place_at nat_eq c.self.inside.places)) 0 c.self.inside.opened)
    ∙ ap (λ v. length v.kept) c.self.view_is
