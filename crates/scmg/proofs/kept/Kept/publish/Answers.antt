use Rattle.std.proofs.Common.{◌∙◌, ap, sym}
use Rattle.plant_core.specs.Plant.{RoutingData}
use Rattle.scmg.specs.Inner.Kept.{in_order}
use Rattle.scmg.proofs.KnownLemmas.{users-after}
use Rattle.scmg.proofs.kept.Kept.publish.Goals as goal

pub invariant_of-self-in-Some : goal.invariant_of-self-in-Some
invariant_of-self-in-Some c =
    let before = c.self.inside.plant.routing in
    c.self.invariant ∙ ap in_order (sym (ap (λ (p : RoutingData). p.users) c.in_ok-absorb.ensures.routing ∙ users-after before c.args.group.now))

pub invariant_of-self-in_default : goal.invariant_of-self-in_default
invariant_of-self-in_default c =
    let before = c.self.inside.plant.routing in
    c.self.invariant ∙ ap in_order (sym (ap (λ (p : RoutingData). p.users) c.in_ok-absorb.ensures.routing ∙ users-after before c.args.group.now))
