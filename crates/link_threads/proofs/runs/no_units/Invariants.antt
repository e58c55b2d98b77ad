use Rattle.std.proofs.Common.{◌≡◌, ◌≤◌, [], length, vec_capacity, All}
use Rattle.link_threads.proofs.runs.no_units.Given as goal

abbrev pub invariant-loop : goal.invariant-loop
invariant-loop g l = record {
  count : length l.waiting.items ≡ l.counter;
  room : l.count ≤ vec_capacity l.waiting;
  empty : All (λ u. u.items ≡ []) l.waiting.items;
}
