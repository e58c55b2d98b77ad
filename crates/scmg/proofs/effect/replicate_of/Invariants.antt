use Rattle.std.proofs.Common.{◌≡◌, ◌==◌, drop}
use Rattle.std.specs.Prelude.{find}
use Rattle.scmg.proofs.effect.replicate_of.Given as goal

-- the first one is still to come
abbrev pub invariant-loop-replicate : goal.invariant-loop-replicate
invariant-loop-replicate l = find (λ r. r.ssn == l.ssn) (drop l.replicate-index l.replicate-items) ≡ find (λ r. r.ssn == l.ssn) l.replicate-items
