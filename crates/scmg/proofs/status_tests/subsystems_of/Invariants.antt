use Rattle.std.proofs.Common.{◌≡◌, ◌++◌, map, drop}
use Rattle.scmg.specs.Inner.Tests.{subsystem_at}
use Rattle.scmg.proofs.status_tests.subsystems_of.Given as goal

-- with those to come, they are all
abbrev pub invariant-loop-timer : goal.invariant-loop-timer
invariant-loop-timer l = l.subsystems.items ++ map subsystem_at (drop l.timer-index l.due) ≡ map subsystem_at l.due
