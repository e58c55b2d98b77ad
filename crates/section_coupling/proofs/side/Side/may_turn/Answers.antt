use Rattle.std.proofs.Common.{sym, ap, ◌∙◌}
use Rattle.section_model.specs.Ends.{wire}
use Rattle.section_coupling.specs.Inner.Idle.{may_turn}
use Rattle.section_coupling.specs.Views.{section_at, end_at}
use Rattle.section_coupling.proofs.side.Side.may_turn.Goals as goal

pub returns-in-Wire : goal.returns-in-Wire
returns-in-Wire c now =
    c.may_turn_section.ensures now
    ∙ (ap (λ w. may_turn c.args.cell (wire (section_at now w))) c.get.ensures ∙ ap (λ s. may_turn c.args.cell (end_at now s)) (sym c.in-Wire.is))
