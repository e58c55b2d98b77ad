use Rattle.std.proofs.Common.{sym, ap, ◌∙◌}
use Rattle.section_model.specs.Table.{section_cell}
use Rattle.section_coupling.specs.Views.{section_by}
use Rattle.section_coupling.proofs.Composed.{if-ok}
use Rattle.section_coupling.proofs.Arriving.{heard_by_cell}
use Rattle.section_coupling.proofs.ByTable.{can_hear}
use Rattle.section_coupling.proofs.wire.Wire.hear.Goals as goal

pub act-requires-clause-can : goal.act-requires-clause-can
act-requires-clause-can c = can_hear _ _ c.args.coming.now _ c.requires.arrives c.section_cell-cell.ensures c.state.ensures

pub returns-in-None-clause-hears : goal.returns-in-None-clause-hears
returns-in-None-clause-hears c =
    let clock = c.args.clock.now in
    if-ok c.act.result (λ acted e. heard_by_cell clock c.args.coming.now c.section_cell-cell.result (section_by clock c.args.self.now) _ (sym c.in_ok-output.ensures ∙ c.in-None.is) c.requires.arrives
    (c.section_cell-cell.ensures ∙ ap (λ s. section_cell s c.args.coming.now.arrival.occasion) c.state.ensures) e) c.act.ensures.acts
