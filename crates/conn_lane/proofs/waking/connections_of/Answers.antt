use Rattle.std.proofs.Common.{◌≡◌, ◌+◌, get_or, sym, subst, ap, ◌∙◌}
use Rattle.timer_wheel.specs.declared.due.Due.{Due}
use Rattle.conn_journal.proofs.Standing.{any_default}
use Rattle.conn_lane.proofs.Wheels.{Collected, collected_again, collected_next}
use Rattle.conn_lane.proofs.waking.connections_of.Goals as goal
use Rattle.conn_lane.proofs.waking.connections_of.Goals.{then-number-next+in_ok-push, else-number-next}

pub loop-timer-preserved : goal.loop-timer-preserved
loop-timer-preserved c =
    let timers = c.args.timers.now in
    let i = c.loop-timer.timer-index in
    let next = c.loop-timer.next in
    let numbers = c.loop-timer.numbers.items in
    let d : Due = get_or timers i (record { conn = 0; timer = 0 }) in
    let within = c.loop-timer-test.true in
    let here : d ≡ get_or timers i d = any_default timers i (record { conn = 0; timer = 0 }) d within in
    elim c.if-number-next.branch [
      | then-number-next+in_ok-push w ↦
          subst (λ n. Collected timers (i + 1) n c.if-number-next.numbers.items) (sym w.next-is)
          (subst (Collected timers (i + 1) (d.conn + 1)) (sym (ap (λ v. v.items) w.numbers-is ∙ w.in_ok-push.ensures.items))
          (collected_next i next timers numbers d within here w.if-number-next.true c.loop-timer.invariant))
      | else-number-next w ↦
          subst (λ n. Collected timers (i + 1) n c.if-number-next.numbers.items) (sym w.next-is)
          (subst (λ v. Collected timers (i + 1) next v.items) (sym w.numbers-is)
          (collected_again i next timers numbers d within here w.if-number-next.false c.loop-timer.invariant))
    ]
