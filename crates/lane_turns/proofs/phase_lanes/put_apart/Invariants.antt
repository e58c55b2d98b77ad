use Rattle.std.proofs.Common.{◌≡◌, ◌+◌, ◌++◌, ◌≤◌, length, vec_capacity, All}
use Rattle.std.specs.List.{flat_map}
use Rattle.lane_turns.specs.Turns.{IsTurn}
use Rattle.lane_turns.specs.Rows.{HasPlace, conn_of, data_of, lanes_of}
use Rattle.lane_turns.proofs.phase_lanes.put_apart.Given as goal

abbrev pub invariant-loop-turn : goal.invariant-loop-turn
invariant-loop-turn g l = record {
  conns : l.conns.items ≡ l.initial.conns.items ++ flat_map conn_of (lanes_of l.yielded);
  units : l.units.items ≡ l.initial.units.items ++ flat_map data_of (lanes_of l.yielded);
  turns : All IsTurn l.yielded;
  placed : All HasPlace l.turn-iterator.rest.items;
  conns_room : length l.conns.items + length l.turn-iterator.rest.items ≤ vec_capacity l.conns;
  units_room : length l.units.items + length l.turn-iterator.rest.items ≤ vec_capacity l.units;
}
