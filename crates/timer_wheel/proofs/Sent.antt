-- A wheel may go to another thread, since its tree may.
use denote.Param.Send.{IsSend, sendable}
use Rattle.std.proofs.Crossing.{crosses}
use Rattle.timer_wheel.specs.contracts.wheel.Wheel.{the_row}
use Rattle.timer_wheel.proofs.tree.Tree.TheLaws.TheKnot.{hole_send-Tree, hole_send-Node}

pub wheel_send : IsSend the_row
wheel_send = search (sendable, crosses, hole_send-Tree, hole_send-Node) depth 60 fits 20000
