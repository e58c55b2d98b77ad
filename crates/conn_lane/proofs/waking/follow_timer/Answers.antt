use Rattle.std.proofs.Common.{sym, subst, ap}
use Rattle.timer_wheel.specs.Timers.{Timers, timer_of}
use Rattle.conn_lane.specs.Inner.Wheels.{SetsOne}
use Rattle.conn_lane.proofs.Wheels.{one_set}
use Rattle.conn_lane.proofs.waking.follow_timer.Goals as goal

pub returns-then-not-stands-clause-set : goal.returns-then-not-stands-clause-set
returns-then-not-stands-clause-set c =
    let due = timer_of c.args.number c.args.timer in
    subst (SetsOne due c.args.left c.args.wheel.now.armed) (sym (ap (λ (v : Timers). v.armed) c.set_timer.ensures)) (one_set due c.args.left c.args.wheel.now.armed)
