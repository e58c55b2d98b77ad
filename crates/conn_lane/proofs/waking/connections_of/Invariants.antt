use Rattle.conn_lane.proofs.Wheels.{Collected}
use Rattle.conn_lane.proofs.waking.connections_of.Given as goal

-- the connections of the timers that were read
abbrev pub invariant-loop-timer : goal.invariant-loop-timer
invariant-loop-timer l = Collected l.timers l.timer-index l.next l.numbers.items
