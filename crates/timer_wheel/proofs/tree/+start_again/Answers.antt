use Rattle.std.proofs.Common.{sym}
use Rattle.timer_wheel.proofs.Order.{none_again}
use Rattle.timer_wheel.proofs.tree.+start_again.Goals as goal

pub returns-then-deref-tick-clause-alarms : goal.returns-then-deref-tick-clause-alarms
returns-then-deref-tick-clause-alarms t c =
    let sound = rw c.in-Fork.is at c.requires.sound in
    rw c.in-Fork.is (sym (none_again _ c.args.tick c.args.most _ sound.2 (rw c.deref.ensures at c.if-deref-tick.true)))
