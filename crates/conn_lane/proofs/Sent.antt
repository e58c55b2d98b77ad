-- A connection lane may go to another thread.
use denote.Param.Send.{IsSend, sendable}
use Rattle.std.proofs.Crossing.{crosses}
use Rattle.timer_wheel.proofs.Sent.{wheel_send}
use Rattle.conn_lane.proofs.connections.Connections.TheSendSync.{the_send as connections_send}
use Rattle.conn_journal.proofs.journal.ConnJournal.TheSendSync.{the_send as journal_send}
use Rattle.conn_lane.specs.contracts.timed.TimedConnections as TimedConnections
use Rattle.conn_lane.specs.contracts.lane.ConnLane as ConnLane

timed_send : IsSend TimedConnections.the_row
timed_send = search (sendable, crosses, wheel_send, connections_send) depth 60 fits 20000

pub conn_lane_send : IsSend ConnLane.the_row
conn_lane_send = search (sendable, crosses, journal_send, timed_send) depth 60 fits 20000
