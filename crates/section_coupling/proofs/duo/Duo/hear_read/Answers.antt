use Rattle.std.proofs.Common.{◌≡◌, ◌∙◌, refl, sym, ap, subst}
use Rattle.std.specs.Prelude.{ℕ, IsTrue, List}
use Rattle.relay_base.specs.declared.words.Output.{Output}
use Rattle.section_model.specs.Ends.{Connection}
use Rattle.connection_law.specs.InStep.{IsInStep}
use Rattle.connection_law.proofs.Flow.Step.{event_kept}
use Rattle.connection_law.proofs.Flow.Following.{flow_kept}
use Rattle.section_coupling.specs.Views.{connection_at}
use Rattle.section_model.specs.Step.{hears, connection_step}
use Rattle.connection_law.specs.DataSent.{SendsData}
use Rattle.connection_law.specs.ExpeditedSent.{SendsExpedited}
use Rattle.section_coupling.specs.Duos.{DuoState, duo_at, taken_after}
use Rattle.section_coupling.proofs.Keeping.{at-any, step_joined, behind_none, kept-step, data-step, expedited-step}
use Rattle.section_coupling.proofs.duo.Duo.hear_read.Goals as goal

pub invariant_of-duo : goal.invariant_of-duo
invariant_of-duo c = (
  c.in_ok-follow.ensures.sound,
  kept-step c.pair.inside.ticks c.args.now c.taken_after.result c.taken_after.result c.args.event c.pair.inside.pair c.take.new.pair c.follow.new.pair _ _ c.pair.invariant.1 refl (behind_none _ _ _ c.new-outs.ensures c.in_ok-take.ensures.step) c.in_ok-follow.ensures.follows,
)

pub returns-clause-step : goal.returns-clause-step
returns-clause-step c =
    subst (λ (n : ℕ). connection_step c.args.self.now.ticks (duo_at c.args.now c.args.self.now) c.args.event ≡ (connection_at n c.follow.new.pair, c.follow.new.outs)) (c.taken_after.ensures ∙ ap (taken_after c.args.now) c.event.ensures)
    (subst (λ (d : DuoState). connection_step d.ticks (duo_at c.args.now d) c.args.event ≡ (connection_at c.taken_after.result c.follow.new.pair, c.follow.new.outs)) (c.pair.view_is ∙ c.in_ok-alloc.ensures)
    (step_joined c.pair.inside.ticks c.args.now c.taken_after.result c.taken_after.result c.args.event c.pair.inside.pair c.take.new.pair c.follow.new.pair _ _ refl (behind_none _ _ _ c.new-outs.ensures c.in_ok-take.ensures.step) c.in_ok-follow.ensures.follows))

pub returns-clause-windows : goal.returns-clause-windows
returns-clause-windows c =
    flow_kept _
    (at-any 0 (taken_after c.args.now c.args.event) c.follow.new.pair
    (kept-step c.pair.inside.ticks c.args.now c.taken_after.result c.taken_after.result c.args.event c.pair.inside.pair c.take.new.pair c.follow.new.pair _ _ c.pair.invariant.1 refl (behind_none _ _ _ c.new-outs.ensures c.in_ok-take.ensures.step) c.in_ok-follow.ensures.follows))

pub returns-clause-data : goal.returns-clause-data
returns-clause-data c =
    subst (λ (d : DuoState). SendsData d.ticks (duo_at c.args.now d) c.args.event c.follow.new.outs) (c.pair.view_is ∙ c.in_ok-alloc.ensures)
    (data-step c.pair.inside.ticks c.args.now c.taken_after.result c.taken_after.result c.args.event c.pair.inside.pair c.take.new.pair c.follow.new.pair _ _ c.pair.invariant.1 refl (behind_none _ _ _ c.new-outs.ensures c.in_ok-take.ensures.step) c.in_ok-follow.ensures.follows)

pub returns-clause-expedited : goal.returns-clause-expedited
returns-clause-expedited c =
    subst (λ (d : DuoState). SendsExpedited d.ticks (duo_at c.args.now d) c.args.event c.follow.new.outs) (c.pair.view_is ∙ c.in_ok-alloc.ensures)
    (expedited-step c.pair.inside.ticks c.args.now c.taken_after.result c.taken_after.result c.args.event c.pair.inside.pair c.take.new.pair c.follow.new.pair _ _
    (subst (λ (d : DuoState). IsTrue (hears (duo_at c.args.now d) c.args.event)) (sym (c.pair.view_is ∙ c.in_ok-alloc.ensures)) c.requires.hears) refl (behind_none _ _ _ c.new-outs.ensures c.in_ok-take.ensures.step) c.in_ok-follow.ensures.follows)

pub follow-requires-clause-steps : goal.follow-requires-clause-steps
follow-requires-clause-steps c =
    subst (λ (s : Connection × List Output). IsInStep s.0) (behind_none _ _ _ c.new-outs.ensures c.in_ok-take.ensures.step)
    (event_kept c.pair.inside.ticks c.args.event (connection_at c.args.now c.pair.inside.pair) (at-any 0 c.args.now c.pair.inside.pair c.pair.invariant.1))
