use Rattle.std.proofs.Common.{◌+◌, ◌++◌, sym, ap, ◌∙◌, subst}
use Rattle.timer_wheel.specs.Timers.{Timers, due_now, IsRising, AreRunning}
use Rattle.timer_wheel.specs.Inner.Tree.{alarms, due_by}
use Rattle.timer_wheel.proofs.Turns.{due_at, rising_at, running_at}
use Rattle.timer_wheel.proofs.wheel.Wheel.due.Goals as goal

pub returns-clause-value : goal.returns-clause-value
returns-clause-value c =
    let list = alarms c.self.inside.tree in
    let due = due_by (c.self.inside.passed + 1) list in
    c.in_ok-list_due.ensures ∙ ap (λ l. l ++ due) c.new-list.ensures.items
    ∙ (sym (due_at c.self.inside.passed list c.self.invariant.0.later) ∙ ap (λ (v : Timers). due_now v.armed) c.self.view_is)

pub returns-clause-rising : goal.returns-clause-rising
returns-clause-rising c =
    subst (λ (v : Timers). IsRising v.armed) c.self.view_is (rising_at c.self.inside.passed (alarms c.self.inside.tree) c.self.invariant.0.rising)

pub returns-clause-running : goal.returns-clause-running
returns-clause-running c =
    subst (λ (v : Timers). AreRunning v.armed) c.self.view_is (running_at c.self.inside.passed (alarms c.self.inside.tree) c.self.invariant.0.later)

pub returns-in_err-list_due-clause-rising : goal.returns-in_err-list_due-clause-rising
returns-in_err-list_due-clause-rising c =
    subst (λ (v : Timers). IsRising v.armed) c.self.view_is (rising_at c.self.inside.passed (alarms c.self.inside.tree) c.self.invariant.0.rising)

pub returns-in_err-list_due-clause-running : goal.returns-in_err-list_due-clause-running
returns-in_err-list_due-clause-running c =
    subst (λ (v : Timers). AreRunning v.armed) c.self.view_is (running_at c.self.inside.passed (alarms c.self.inside.tree) c.self.invariant.0.later)
