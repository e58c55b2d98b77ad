use Rattle.std.proofs.Common.{sym, append-nil}
use Rattle.timer_wheel.proofs.Order.{none_fires}
use Rattle.timer_wheel.proofs.tree.+list_due.Goals as goal

pub returns-then-deref-tick : goal.returns-then-deref-tick
returns-then-deref-tick t c =
    let sound = rw c.in-Fork.is at c.requires.sound in
    rw c.in-Fork.is (rw (none_fires _ _ _ sound.2 (rw c.deref.ensures at c.if-deref-tick.true)) (sym (append-nil _)))
