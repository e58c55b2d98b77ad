use Rattle.std.proofs.Common.{Some, sym, subst}
use Rattle.conn_lane.specs.Inner.Timed.{SetsTimers, IsTimed}
use Rattle.conn_lane.proofs.Wakings.{opened_timed}
use Rattle.conn_lane.proofs.timed.TimedConnectionsStore.open.Goals as goal

pub invariant_of-self : goal.invariant_of-self
invariant_of-self c =
    let i = c.self.inside in
    let later = c.follow.new.wheel.armed in
    let sets = subst (λ n. SetsTimers i.taken n (Some c.args.one) i.wheel.armed later) c.opened-number.ensures c.follow.ensures.set in
    subst (λ k. IsTimed i.taken k later) (sym c.open.ensures) (opened_timed i.taken i.kept.kept c.args.one i.wheel.armed later sets c.self.invariant)
