use Rattle.std.proofs.Common.{◌≡◌, drop, []}
use Rattle.node_head.specs.Numbers.{numbers_after}
use Rattle.node_head.proofs.numbers.numbers.Given as goal

-- the numbers so far, and those of what is left
abbrev pub invariant-loop-integer : goal.invariant-loop-integer
invariant-loop-integer g l = numbers_after l.bounds l.found (drop l.integer-index l.integers) ≡ numbers_after l.bounds [] l.integers
