use Rattle.std.proofs.Common.{None, nat_eq, get_or, sym, ap, ◌∙◌}
use Rattle.std.specs.Prelude.{option_map, option_copied}
use Rattle.std.specs.HashMap.{get as place_at}
use Rattle.slab.specs.Slab.{get as placed_at}
use Rattle.conn_lane.specs.Inner.Placing.{one_in}
use Rattle.conn_lane.proofs.Placing.{one_kept}
use Rattle.conn_lane.proofs.connections.Connections.get.Goals as goal

pub returns-in_err-place : goal.returns-in_err-place
returns-in_err-place c =
    let placed = placed_at c.self.inside.placed in
    let places = place_at nat_eq c.self.inside.places in
    ap (option_map (λ k. k.now)) c.from_residual.ensures
    ∙ (sym (ap (one_in placed) (sym c.get.ensures.value ∙ ap option_copied c.in_err-place.was))
    ∙ (sym (one_kept placed places c.self.inside.opened c.args.number c.self.invariant) ∙ ap (λ v. get_or v.kept c.args.number None) c.self.view_is))

pub returns-in_err-placed : goal.returns-in_err-placed
returns-in_err-placed c =
    let placed = placed_at c.self.inside.placed in
    let places = place_at nat_eq c.self.inside.places in
    ap (option_map (λ k. k.now)) c.from_residual-in_err-placed.ensures
    ∙ (sym (ap (one_in placed) (sym c.get.ensures.value ∙ ap option_copied c.in_ok-place.was) ∙ ap (option_map (λ p. p.one)) (sym c.get-2.ensures ∙ ap option_copied c.in_err-placed.was))
    ∙ (sym (one_kept placed places c.self.inside.opened c.args.number c.self.invariant) ∙ ap (λ v. get_or v.kept c.args.number None) c.self.view_is))

pub returns : goal.returns
returns c =
    let placed = placed_at c.self.inside.placed in
    let places = place_at nat_eq c.self.inside.places in
    sym (ap (one_in placed) (sym c.get.ensures.value ∙ ap option_copied c.in_ok-place.was) ∙ ap (option_map (λ p. p.one)) (sym c.get-2.ensures ∙ ap option_copied c.in_ok-placed.was))
    ∙ (sym (one_kept placed places c.self.inside.opened c.args.number c.self.invariant) ∙ ap (λ v. get_or v.kept c.args.number None) c.self.view_is)
