use Rattle.std.proofs.Common.{sym, subst, ◌∙◌, arith}
use Rattle.conn_lane.specs.Inner.Wheels.{AreOrdered}
use Rattle.conn_lane.proofs.Wheels.{due_ordered}
use Rattle.conn_lane.proofs.waking.due.Goals as goal

pub connections_of-requires : goal.connections_of-requires
connections_of-requires c =
    record {
      ordered = subst (AreOrdered 0) (sym (c.as_slice.ensures.value ∙ c.in_ok-timers.ensures.value))
          (due_ordered 0 c.args.wheel.now.armed c.in_ok-timers.ensures.rising (λ k d below. omega arith));
    }
