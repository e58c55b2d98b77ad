use Rattle.std.proofs.Common.{◌≡◌, ◌≤◌, [], length, vec_capacity, All}
use Rattle.link_threads.proofs.dealing.new_hands.Given as goal

abbrev pub invariant-loop : goal.invariant-loop
invariant-loop l = record {
  count : length l.hands.items ≡ l.counter;
  room : l.count ≤ vec_capacity l.hands;
  empty : All (λ h. h.items ≡ []) l.hands.items;
}
