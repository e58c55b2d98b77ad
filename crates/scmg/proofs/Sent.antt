-- The control lane may go to another thread, since the wheel of its status tests may.
use denote.Param.Send.{IsSend, sendable}
use Rattle.std.proofs.Crossing.{crosses}
use Rattle.mark.proofs.Mark.TheSendSync.{the_send as mark_send}
use Rattle.relay_base.proofs.lists.PlainList.TheSendSync.{the_send as list_send}
use Rattle.plant_core.proofs.entry.ControlEntry.TheSendSync.{the_send as entry_send}
use Rattle.plant_core.proofs.plant.Plant.TheSendSync.{the_send as plant_send}
use Rattle.plant_core.proofs.statuses.RemoteSubsystem.TheSendSync.{the_send as remote_send}
use Rattle.timer_wheel.proofs.Sent.{wheel_send}
use Rattle.scmg.proofs.head.ControlHead.TheSendSync.{the_send as head_send}
use Rattle.scmg.proofs.timed.Coordination.TheSendSync.{the_send as coordination_send}
use Rattle.scmg.specs.contracts.status_tests.StatusTests as StatusTests
use Rattle.scmg.specs.contracts.kept.Kept as Kept
use Rattle.scmg.specs.contracts.lane.ControlLane as ControlLane

tests_send : IsSend StatusTests.the_row
tests_send = search (sendable, crosses, wheel_send) depth 60 fits 20000

kept_send : IsSend Kept.the_row
kept_send = search (sendable, crosses, plant_send, remote_send, coordination_send, tests_send) depth 60 fits 20000

pub control_lane_send : IsSend ControlLane.the_row
control_lane_send = search (sendable, crosses, head_send, list_send, entry_send, mark_send, kept_send) depth 60 fits 20000
