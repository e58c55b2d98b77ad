use Rattle.std.proofs.Common.{◌≡◌, ◌+◌, ◌≤◌, length, map, vec_capacity, All}
use Rattle.lane_gate.specs.Gates.{origin_of}
use Rattle.link_threads.specs.Gates.{AreDealt, IsAtOpening}
use Rattle.link_threads.proofs.dealing.doors.Given as goal

abbrev pub invariant-loop-lane : goal.invariant-loop-lane
invariant-loop-lane g l = record {
  origins : map (λ door. origin_of door.gate) l.doors.items ≡ l.yielded;
  dealt : AreDealt g.L.LaneState.plan (map g.A.Arrivals.left l._links) l.doors.items l.hands;
  rest : All (IsAtOpening g.L.LaneState.plan g.L.LaneState.taken g.L.Named.name_of (map g.A.Arrivals.left l._links)) l.lane-iterator.rest.items;
  room : length l.doors.items + length l.lane-iterator.rest.items ≤ vec_capacity l.doors;
}
