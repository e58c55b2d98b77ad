use Rattle.std.proofs.Common.{ℕ, Option, sym, subst, refl, ◌∙◌, arith}
use Rattle.std.specs.Prelude.{option_map}
use Rattle.timer_wheel.specs.Timers.{timer_of}
use Rattle.conn_lane.specs.Inner.Timed.{timer_left, IsLeft}
use Rattle.conn_lane.specs.Inner.Wheels.{ticks_of, SetsOne, SetsFirst}
use Rattle.conn_lane.proofs.Wheels.{none_set, next_set, not_yet_set}
use Rattle.conn_lane.proofs.waking.follow.Goals as goal

pub loop-timer-init : goal.loop-timer-init
loop-timer-init c =
    record {
      sets = none_set (λ timer. timer_left c.args.taken timer (option_map (λ k. k.now) c.args.next)) c.args.number c.args.wheel.now.armed;
      still = refl;
    }

pub follow_timer-requires-clause-before : goal.follow_timer-requires-clause-before
follow_timer-requires-clause-before c =
    let left : ℕ → Option ℕ = λ timer. timer_left c.args.taken timer (option_map (λ k. k.now) c.args.next) in
    let timer = c.loop-timer.timer in
    subst (λ x. IsLeft x (ticks_of (timer_of c.args.number timer) c.loop-timer.wheel.armed)) (sym c.ticks_left-was.ensures.value)
    (subst (IsLeft (timer_left c.args.taken timer (option_map (λ k. k.now) c.args.before)))
    (sym (not_yet_set left c.args.number timer c.args.wheel.now.armed c.loop-timer.wheel.armed c.loop-timer.invariant.sets))
    (c.requires.before timer c.loop-timer-test.true))

pub follow_timer-requires-clause-room : goal.follow_timer-requires-clause-room
follow_timer-requires-clause-room c =
    omega (arith, c.requires.room, c.loop-timer-test.true, c.loop-timer.invariant.sets.few, c.loop-timer.invariant.still)

pub loop-timer-preserved : goal.loop-timer-preserved
loop-timer-preserved c =
    let left : ℕ → Option ℕ = λ timer. timer_left c.args.taken timer (option_map (λ k. k.now) c.args.next) in
    let timer = c.loop-timer.timer in
    record {
      sets = next_set left c.args.number timer c.args.wheel.now.armed c.loop-timer.wheel.armed c.follow_timer.new.wheel.armed c.loop-timer.invariant.sets
          (subst (λ x. SetsOne (timer_of c.args.number timer) x c.loop-timer.wheel.armed c.follow_timer.new.wheel.armed) c.ticks_left.ensures.value c.follow_timer.ensures.set);
      still = c.follow_timer.ensures.room ∙ c.loop-timer.invariant.still;
    }

pub returns-clause-set : goal.returns-clause-set
returns-clause-set c =
    let left : ℕ → Option ℕ = λ timer. timer_left c.args.taken timer (option_map (λ k. k.now) c.args.next) in
    subst (λ n. SetsFirst c.args.number n left c.args.wheel.now.armed c.loop-timer.wheel.armed) (omega (arith, c.loop-timer-test.false, c.loop-timer.auto.timer-end)) c.loop-timer.invariant.sets
