use Rattle.std.proofs.Common.{sym, subst, ap, ◌∙◌}
use Rattle.timer_wheel.specs.Timers.{due_now}
use Rattle.conn_journal.specs.Inner.Waking.{AreQuiet, WakesAll}
use Rattle.conn_lane.specs.Inner.Wheels.{is_due}
use Rattle.conn_lane.proofs.Wakings.{wakes_all, if_ok}
use Rattle.conn_lane.proofs.timed.TimedConnectionsStore.due.Goals as goal

pub returns-clause-wakes : goal.returns-clause-wakes
returns-clause-wakes c =
    let i = c.self.inside in
    if_ok c.due.result
    (λ numbers are.
    subst (λ v. WakesAll v.taken v.connections.kept 0 numbers.items) c.self.view_is
    (wakes_all i.taken i.kept.kept i.wheel.armed numbers.items (subst (λ v. AreQuiet v.taken v.connections.kept) (sym c.self.view_is) c.requires.quiet) c.self.invariant are)) c.due.ensures

pub returns-clause-due : goal.returns-clause-due
returns-clause-due c = if_ok c.due.result (λ numbers are n. are.same n ∙ ap (λ v. is_due n (due_now v.wheel.armed)) c.self.view_is) c.due.ensures
