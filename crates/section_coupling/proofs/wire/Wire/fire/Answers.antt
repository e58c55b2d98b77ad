use Rattle.section_coupling.proofs.ByTable.{can_fire}
use Rattle.section_coupling.proofs.wire.Wire.fire.Goals as goal

pub act-requires-clause-can : goal.act-requires-clause-can
act-requires-clause-can c = can_fire _ _ c.firing.result _ _ c.section_cell-cell.ensures c.state.ensures
