use Rattle.std.proofs.Common.{◌≡◌, ◌++◌, map, drop}
use Rattle.scmg.specs.Control.{test_sent}
use Rattle.scmg.proofs.effect.tests_sent.Given as goal

-- with those to come, the outputs are all
abbrev pub invariant-loop-to : goal.invariant-loop-to
invariant-loop-to l = l.outs.items ++ map test_sent (drop l.to-index l.due) ≡ map test_sent l.due
