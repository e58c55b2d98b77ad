use Rattle.std.proofs.Common.{length}
use Rattle.timer_wheel.specs.Inner.Tree.{alarms}
use Rattle.timer_wheel.proofs.tree.+with.Given as goal

abbrev pub decreases-with : goal.decreases-with
decreases-with l = length (alarms l.tree)
