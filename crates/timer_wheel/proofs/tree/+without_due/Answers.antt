use Rattle.std.proofs.Common.{◌≡◌, ◌∷◌, ◌++◌, refl, sym, ◌∙◌}
use Rattle.timer_wheel.specs.Inner.Tree.{alarms}
use Rattle.timer_wheel.proofs.Order.{all_stay, stay_parted}
use Rattle.timer_wheel.proofs.tree.+without_due.Goals as goal

pub returns-then-deref-tick-clause-alarms : goal.returns-then-deref-tick-clause-alarms
returns-then-deref-tick-clause-alarms t c =
    let sound = rw c.in-Fork.is at c.requires.sound in
    rw c.in-Fork.is (sym (all_stay _ _ _ sound.2 (rw c.deref.ensures at c.if-deref-tick.true)))

pub returns-else-deref-tick-clause-alarms : goal.returns-else-deref-tick-clause-alarms
returns-else-deref-tick-clause-alarms t c =
    let root : alarms c.args.tree ≡ alarms c.open-left.result.0 ++ c.open-left.result.1.value.alarm ∷ alarms c.open-left.result.2 =
    rw (c.in-Fork.is, c.open-left.ensures.left, c.open-left.ensures.alarm, c.open-left.ensures.right) refl in
    c.fork_unless_due.ensures.alarms ∙ stay_parted _ _ _ _ _ _ _ root c.without_due-left.ensures.alarms c.without_due-right.ensures.alarms
