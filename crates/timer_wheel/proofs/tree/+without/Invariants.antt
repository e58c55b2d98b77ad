use Rattle.std.proofs.Common.{length}
use Rattle.timer_wheel.specs.Inner.Tree.{alarms}
use Rattle.timer_wheel.proofs.tree.+without.Given as goal

abbrev pub decreases-without : goal.decreases-without
decreases-without l = length (alarms l.tree)
