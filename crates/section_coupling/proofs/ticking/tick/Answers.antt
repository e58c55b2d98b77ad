use Rattle.std.proofs.Common.{ap, ◌∙◌}
use Rattle.section_model.specs.Ends.{Connection}
use Rattle.section_model.specs.Coupling.{and_then, on_that}
use Rattle.section_model.specs.Step.{fires_due}
use Rattle.section_coupling.specs.Views.{connection_by, ends_by, behind}
use Rattle.section_coupling.proofs.Composed.{on-ok}
use Rattle.section_coupling.proofs.Alone.{both_fired}
use Rattle.section_coupling.proofs.LaterTimers.{ticked_pair}
use Rattle.section_coupling.proofs.ticking.tick.Goals as goal

pub returns-clause-ticks : goal.returns-clause-ticks
returns-clause-ticks c =
    let clock = c.args.clock.now in
    on-ok c.fire_due-2.result (λ e. ap (λ (p : Connection). behind c.args.outs.now (and_then (on_that (fires_due clock.ticks)) (fires_due clock.ticks p))) (ticked_pair c.args.before clock.taken c.args.pair.now c.requires.before)
    ∙ both_fired clock.ticks (connection_by clock c.args.pair.now) (ends_by clock c.fire_due.new.this c.fire_due.new.that) (ends_by clock c.fire_due-2.new.that c.fire_due-2.new.this) c.args.outs.now _ _
    c.in_ok-fire_due.ensures.fires e) c.fire_due-2.ensures.fires
