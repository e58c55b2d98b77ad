use Rattle.std.proofs.Common.{◌≡◌, ◌++◌, ◌∙◌, ap, subst, IfOk, Some}
use Rattle.relay_base.specs.declared.words.Tell.TheVariants as tell
use Rattle.plant_core.specs.Plant.{RoutingData}
use Rattle.scmg.specs.Control.{told_all, to_concerned}
use Rattle.scmg.proofs.known.service_known.Goals as goal

pub returns : goal.returns
returns c =
    let p = c.args.kept.now.control.routing in
    let head = c.args.head.now in
    let own_is = c.own.ensures ∙ ap (λ (q : RoutingData). q.own) c.plant-plant.ensures.routing in
    subst (λ o. IfOk c.tell_concerned.result (λ all. all ≡ o ++ to_concerned head p c.args.up c.args.ssn))
    (c.in_ok-outs.ensures ∙ ap (λ own. told_all p (Some c.args.ssn) (tell.State c.args.ssn own c.args.up)) own_is)
    (subst (λ (q : RoutingData). IfOk c.tell_concerned.result (λ all. all ≡ c.in_ok-outs.outs ++ to_concerned head q c.args.up c.args.ssn)) c.plant-plant.ensures.routing c.tell_concerned.ensures)
