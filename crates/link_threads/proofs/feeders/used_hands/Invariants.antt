use Rattle.std.proofs.Common.{◌≡◌, ◌+◌, ◌≤◌, true, length, map, vec_capacity, All}
use Rattle.link_threads.proofs.feeders.used_hands.Given as goal

abbrev pub invariant-loop-feeder : goal.invariant-loop-feeder
invariant-loop-feeder g l = record {
  ended : All (λ f. f.ended ≡ true) l.yielded;
  hands : l.hands.items ≡ map (λ f. f.passes) l.yielded;
  room : length l.hands.items + length l.feeder-iterator.rest.items ≤ vec_capacity l.hands;
}
