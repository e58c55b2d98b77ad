use Rattle.std.proofs.Common.{◌≡◌, ◌*◌, length}
use Rattle.gate_tests.proofs.looks.publish_ten.Given as goal

abbrev pub invariant-loop : goal.invariant-loop
invariant-loop g l = (l.publisher.opened.number ≡ 0) × (length l.publisher.seen.changes ≡ 2 * l.counter)
