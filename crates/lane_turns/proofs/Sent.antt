-- A lane with the phase whose events it takes may go to another thread.
use denote.RattleType.{RattleType}
use denote.Ref.{NamedLft}
use denote.Struct.Declared.{shape}
use denote.Param.Send.{IsSend, IsSync, sendable, view_send, recorded_send, struct_send}
use Rattle.std.proofs.Crossing.{crosses}
use Rattle.node_head.proofs.head.Head.TheSendSync.{the_sync as head_sync}
use Rattle.mark.proofs.Mark.TheSendSync.{the_send as mark_send}
use Rattle.data_lane.proofs.lane.DataLane.TheSendSync.{the_send as data_lane_send}
use Rattle.conn_lane.proofs.Sent.{conn_lane_send}
use Rattle.lane_seats.proofs.Sent.{control_seat_send}
use Rattle.lane_seats.proofs.seat.Seat.TheSendSync.{the_send as seat_send}
use Rattle.lane_turns.specs.contracts.lane_kind.LaneKind as LaneKind
use Rattle.lane_turns.specs.contracts.phase_lane.PhaseLane as PhaseLane
use Rattle.lane_turns.specs.contracts.turn.LaneTurn as LaneTurn

kind_send : (a : NamedLft) (T : RattleType) → IsSync T → IsSend (LaneKind.the_field a T).row
kind_send a T y = search (sendable, crosses, control_seat_send, seat_send, conn_lane_send, data_lane_send) depth 60 fits 20000

lane_send : (a : NamedLft) (T : RattleType) → IsSync T → IsSend (PhaseLane.the_row a T)
lane_send a T y =
    let inside = PhaseLane.TheInside.the_type a T in
    view_send _ _ _ _ _ (recorded_send _ _ inside.to inside.to_one (struct_send (shape inside) (kind_send a T y, tt)))

pub turn_send : (a b : NamedLft) (T : RattleType) → IsSync T → IsSend (LaneTurn.the_row a b T)
turn_send a b T y = search (sendable, crosses, head_sync, mark_send, lane_send) depth 60 fits 20000
