use Rattle.std.proofs.Common.{◌≡◌, ◌++◌, map, filter, drop}
use Rattle.scmg.specs.Control.{is_due_coordination, denied}
use Rattle.scmg.proofs.effect.put_denied.Given as goal

-- with those to come, the outputs are all
abbrev pub invariant-loop-one : goal.invariant-loop-one
invariant-loop-one l = l.outs ++ map denied (filter is_due_coordination (drop l.one-index l.list)) ≡ l.fn.outs ++ map denied (filter is_due_coordination l.list)
