use Rattle.std.proofs.Common.{length}
use Rattle.timer_wheel.specs.Inner.Tree.{alarms}
use Rattle.timer_wheel.proofs.tree.+part.Given as goal

abbrev pub decreases-part : goal.decreases-part
decreases-part l = length (alarms l.tree)
