-- The control lane with its publisher may go to another thread.
use denote.RattleType.{RattleType}
use denote.Ref.{NamedLft}
use denote.Param.Send.{IsSend, IsSync, sendable}
use Rattle.std.proofs.Crossing.{crosses}
use Rattle.scmg.proofs.Sent.{control_lane_send}
use Rattle.lane_seats.proofs.publisher.PhasePublisher.TheSendSync.{the_send as publisher_send}
use Rattle.lane_seats.specs.contracts.control_seat.ControlSeat as ControlSeat

pub control_seat_send : (a : NamedLft) (T : RattleType) → IsSync T → IsSend (ControlSeat.the_row a T)
control_seat_send a T y = search (sendable, crosses, control_lane_send, publisher_send) depth 60 fits 20000
