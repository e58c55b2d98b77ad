use Rattle.std.proofs.Common.{◌≡◌}
use Rattle.std.specs.Prelude.{option_map}
use Rattle.conn_lane.specs.Inner.Timed.{timer_left}
use Rattle.conn_lane.specs.Inner.Wheels.{SetsFirst}
use Rattle.conn_lane.proofs.waking.follow.Given as goal

-- so many timers are set
abbrev pub invariant-loop-timer : goal.invariant-loop-timer
invariant-loop-timer l = record {
  sets : SetsFirst l.number l.timer (λ timer. timer_left l.taken timer (option_map (λ k. k.now) l.next)) l.fn.wheel.armed l.wheel.armed;
  still : l.wheel.room ≡ l.fn.wheel.room;
}
