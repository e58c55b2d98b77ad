use Rattle.std.proofs.Common.{◌≡◌, ◌++◌, map, take, drop}
use Rattle.scmg.specs.Control.{lowered}
use Rattle.scmg.proofs.timed.lower.Given as goal

abbrev pub invariant-loop-place : goal.invariant-loop-place
invariant-loop-place l = l.list.items ≡ map lowered (take l.place l.initial.list.items) ++ drop l.place l.initial.list.items
