use Rattle.section_coupling.proofs.ByTable.{can_take}
use Rattle.section_coupling.proofs.HandsCome.{code-come}
use Rattle.section_coupling.proofs.side.wire_takes.Goals as goal

pub act-requires-clause-can : goal.act-requires-clause-can
act-requires-clause-can c =
    can_take _ _ c.args.hand _ c.requires.granted c.requires.within (code-come c.args.hand.now c.args.wire.now c.args.clock.now.taken c.requires.section.came c.requires.left) c.section_takes_by-cell.ensures
    c.state.ensures
