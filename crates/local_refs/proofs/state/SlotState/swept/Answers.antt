use Rattle.std.proofs.Common.{◌≡◌, ◌-◌, sym, ap, ◌∙◌, arith}
use Rattle.local_refs.specs.Slots.{frozen_for}
use Rattle.local_refs.specs.Inner.Swept.{swept}
use Rattle.local_refs.proofs.Sweeps.{frozen_for_some}
use Rattle.local_refs.proofs.state.SlotState.swept.Goals as goal

pub returns-in-Frozen : goal.returns-in-Frozen
returns-in-Frozen c =
    sym (ap (swept c.args.ticks) c.in-Frozen.is ∙ frozen_for_some (c.in-Frozen.left - c.args.ticks) (omega (arith, c.if-left-ticks.true)))

pub returns-in-Frozen-2 : goal.returns-in-Frozen-2
unfolding frozen_for
returns-in-Frozen-2 c =
    let none : c.in-Frozen.left - c.args.ticks ≡ 0 = omega (arith, c.if-left-ticks.false) in
    sym (ap (swept c.args.ticks) c.in-Frozen.is ∙ ap frozen_for none)
