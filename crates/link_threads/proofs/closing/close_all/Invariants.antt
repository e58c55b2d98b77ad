use Rattle.std.proofs.Common.{◌≡◌, length, take, drop, vec_len}
use Rattle.lane_gate.specs.Gates.{origin_of}
use Rattle.block_threads.specs.Items.{Beside}
use Rattle.link_threads.specs.Gates.{HaveUsed, HasTaken}
use Rattle.link_threads.proofs.closing.close_all.Given as goal

abbrev pub invariant-loop-door : goal.invariant-loop-door
invariant-loop-door g l = record {
  used : HaveUsed g.L.LaneState.plan l.doors.items l.hands.items;
  kept : take (length l.doors.items) l.initial.doors.items ≡ l.doors.items;
  closed : Beside (λ door. HasTaken g.L.LaneState.plan g.L.LaneState.taken (origin_of door.gate)) (drop (length l.doors.items) l.initial.doors.items) l.lanes.items;
}

abbrev pub decreases-loop-door : goal.decreases-loop-door
decreases-loop-door g l = vec_len l.doors
