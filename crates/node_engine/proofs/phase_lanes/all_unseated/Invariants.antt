use Rattle.std.proofs.Common.{◌≡◌, ◌+◌, ◌≤◌, length, map, vec_capacity}
use Rattle.std.specs.List.{AllByRecursion}
use Rattle.gtt_editions.specs.Published.{Begins}
use Rattle.node_engine.proofs.phase_lanes.all_unseated.Given as goal

-- the lanes so far
abbrev pub invariant-loop-seat : goal.invariant-loop-seat
invariant-loop-seat g l = record {
  lanes : l.lanes.items ≡ map (λ s. s.lane) l.yielded;
  seen : AllByRecursion (λ s. Begins l.ended.seen s.place.seen) l.yielded;
  room : length l.lanes.items + length l.seat-iterator.rest.items ≤ vec_capacity l.lanes;
}
