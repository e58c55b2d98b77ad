use Rattle.std.proofs.Common.{◌≡◌, ◌+◌, ◌≤◌, ◌++◌, length, map, reverse, vec_capacity}
use Rattle.node_engine.proofs.phase_lanes.seated.Given as goal

-- the lanes so far took the last places
abbrev pub invariant-loop-lane : goal.invariant-loop-lane
invariant-loop-lane g l = record {
  lanes : map (λ s. s.lane) l.seats.items ≡ l.yielded;
  places : l.initial.places.items ≡ l.places.items ++ reverse (map (λ s. s.place) l.seats.items);
  enough : length l.lane-iterator.rest.items ≤ length l.places.items;
  room : length l.seats.items + length l.lane-iterator.rest.items ≤ vec_capacity l.seats;
}
