use Rattle.std.proofs.Common.{◌≡◌, ◌+◌, ◌++◌, ◌≤◌, length, vec_capacity, All}
use Rattle.capture_form.specs.Events.{phase_events}
use Rattle.lane_turns.specs.Turns.{HasRoom}
use Rattle.lane_turns.specs.Rows.{seated_turn, turns_from}
use Rattle.lane_turns.proofs.phase_lanes.add_turns.Given as goal

abbrev pub invariant-loop-seat : goal.invariant-loop-seat
invariant-loop-seat g l = record {
  turns : l.turns.items ≡ l.initial.turns.items ++ turns_from (seated_turn g.L.SeatedKind.name_of g.L.SeatedKind.lane_of l.head l.phase) 0 l.yielded;
  reserved : length l.turns.items + length l.seat-iterator.rest.items ≤ vec_capacity l.turns;
  capacity : vec_capacity l.turns ≡ vec_capacity l.initial.turns;
  room : All (λ s. HasRoom (length (phase_events l.phase)) (g.L.SeatedKind.lane_of s)) l.seat-iterator.rest.items;
}
