use Rattle.std.proofs.Common.{◌==◌, not, sym, ap, ◌∙◌}
use Rattle.section_coupling.specs.Views.{section_at}
use Rattle.section_coupling.specs.Inner.Idle.{has_turn}
use Rattle.section_coupling.proofs.following.has_turn.Goals as goal

pub returns-in-Leave : goal.returns-in-Leave
returns-in-Leave c now = c.has_waiting.ensures now ∙ sym (ap (λ k. has_turn k (section_at now c.args.wire.now)) c.in-Leave.is)

pub returns-in-Acknowledge : goal.returns-in-Acknowledge
returns-in-Acknowledge c now =
    c.owes_acknowledgement.ensures ∙ (ap (λ came. not (came.passed == c.args.wire.now.windows.windows.told)) (sym (c.requires.sound.came c.requires.class))
    ∙ sym (ap (λ k. has_turn k (section_at now c.args.wire.now)) c.in-Acknowledge.is))
