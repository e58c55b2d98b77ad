use Rattle.std.proofs.Common.{None, nat_eq, get_or, set, refl, sym, subst, ap, ap₂, ◌∙◌}
use Rattle.std.specs.Prelude.{IsSome}
use Rattle.std.specs.HashMap.{get as place_at}
use Rattle.slab.specs.Slab.{get as placed_at}
use Rattle.conn_lane.specs.Inner.Placing.{one_in}
use Rattle.conn_lane.proofs.Placing.{one_kept, put_anew, put_none, isnt_kept, apart_from}
use Rattle.conn_lane.proofs.connections.Connections.put.Goals as goal

pub returns-in_default : goal.returns-in_default
returns-in_default c =
    let placed = placed_at c.self.inside.placed in
    let places = place_at nat_eq c.self.inside.places in
    absurd
    (isnt_kept (get_or c.args.self.now.kept c.args.number None)
    (sym (ap (λ v. get_or v.kept c.args.number None) c.self.view_is)
    ∙ (one_kept placed places c.self.inside.opened c.args.number c.self.invariant ∙ ap (one_in placed) (sym c.get.ensures.value ∙ (sym c.copied.ensures ∙ c.in_default.is))))
    c.requires)

pub remove-requires : goal.remove-requires
remove-requires c =
    subst (λ x. IsSome x) (sym (c.self.invariant.found c.args.number c.in-Some.place (sym c.get.ensures.value ∙ (sym c.copied.ensures ∙ c.in-Some.is))).is) refl

pub invariant_of-self : goal.invariant_of-self
invariant_of-self c =
    (put_anew c.self.inside.placed c.remove.new.self c.insert_reserved.new.self c.self.inside.places c.self.inside.opened c.args.number c.in-Some.place c.insert_reserved.result c.in-Some-one.one
    c.self.invariant (sym c.get.ensures.value ∙ (sym c.copied.ensures ∙ c.in-Some.is)) c.remove.ensures.updates
    (c.insert_reserved.ensures.key ∙ c.remove.ensures.key_is_next) c.insert_reserved.ensures.updates).are

pub returns-in-Some-one : goal.returns-in-Some-one
returns-in-Some-one c =
    (put_anew c.self.inside.placed c.remove.new.self c.insert_reserved.new.self c.self.inside.places c.self.inside.opened c.args.number c.in-Some.place c.insert_reserved.result c.in-Some-one.one
    c.self.invariant (sym c.get.ensures.value ∙ (sym c.copied.ensures ∙ c.in-Some.is)) c.remove.ensures.updates
    (c.insert_reserved.ensures.key ∙ c.remove.ensures.key_is_next) c.insert_reserved.ensures.updates).kept_is
    ∙ ap₂ (λ xs x. set xs c.args.number x) (ap (λ v. v.kept) c.self.view_is) (sym c.in-Some-one.is)

pub invariant_of-self-in-None : goal.invariant_of-self-in-None
invariant_of-self-in-None c =
    let placed = placed_at c.self.inside.placed in
    let new = placed_at c.remove.new.self in
    let places = place_at nat_eq c.self.inside.places in
    let fewer = place_at nat_eq c.remove-in-None.new.self in
    (put_none placed new places fewer c.self.inside.opened c.args.number c.in-Some.place c.self.invariant (sym c.get.ensures.value ∙ (sym c.copied.ensures ∙ c.in-Some.is))
    (record { changed = c.remove.ensures.updates.changed; others = c.remove.ensures.updates.others })
    (record { changed = c.remove-in-None.ensures.updates.1; others = λ q differs. c.remove-in-None.ensures.updates.2 q (apart_from c.args.number q differs) })).are

pub returns-in-None : goal.returns-in-None
returns-in-None c =
    let placed = placed_at c.self.inside.placed in
    let new = placed_at c.remove.new.self in
    let places = place_at nat_eq c.self.inside.places in
    let fewer = place_at nat_eq c.remove-in-None.new.self in
    (put_none placed new places fewer c.self.inside.opened c.args.number c.in-Some.place c.self.invariant (sym c.get.ensures.value ∙ (sym c.copied.ensures ∙ c.in-Some.is))
    (record { changed = c.remove.ensures.updates.changed; others = c.remove.ensures.updates.others })
    (record { changed = c.remove-in-None.ensures.updates.1; others = λ q differs. c.remove-in-None.ensures.updates.2 q (apart_from c.args.number q differs) })).kept_is
    ∙ ap₂ (λ xs x. set xs c.args.number x) (ap (λ v. v.kept) c.self.view_is) (sym c.in-None.is)
