use Rattle.std.proofs.Common.{◌+◌, ◌<◌, All, map, length, sym, ap, ◌∙◌, subst, arith}
use Rattle.std.proofs.lemmas.List.{length-map}
use Rattle.timer_wheel.specs.Timers.{Timers, after_tick_again, AreRunning}
use Rattle.timer_wheel.specs.Inner.Tree.{alarms, started_again, Rises}
use Rattle.timer_wheel.specs.Inner.Turning.{armed_at}
use Rattle.timer_wheel.proofs.Turns.{again_at, later_again, rises_again, running_at}
use Rattle.timer_wheel.proofs.wheel.Wheel.advance_again.Goals as goal

pub invariant_of-self : goal.invariant_of-self
invariant_of-self c =
    let tick = c.counted_anew.result + 1 in
    let list = alarms c.counted_anew.new.tree in
    let most = c.args.most in
    let is = c.start_again.ensures.alarms in
    let size = ap length is ∙ length-map list (started_again tick most) in (
      record {
        sound = c.start_again.ensures.sound;
        rising = subst Rises (sym is) (rises_again tick most list c.counted_anew.ensures.turned.rising);
        later = subst (All (λ a. tick < a.tick)) (sym is) (later_again tick most list);
      },
      omega (arith, c.counted_anew.ensures.count, c.self.invariant.1, size),
      c.self.invariant.2,
      omega (arith, c.counted_anew.ensures.below),
    )

pub returns-clause-value : goal.returns-clause-value
returns-clause-value c =
    let tick = c.counted_anew.result + 1 in
    let list = alarms c.counted_anew.new.tree in
    let most = c.args.most in
    ap (λ l. let t : Timers = record { armed = l; room = c.self.inside.room } in t)
    (ap (armed_at tick) c.start_again.ensures.alarms
    ∙ again_at c.counted_anew.result most list c.counted_anew.ensures.turned.later
    ∙ ap (map (after_tick_again most)) c.counted_anew.ensures.same)
    ∙ ap (λ (v : Timers). let t : Timers = record { armed = map (after_tick_again most) v.armed; room = v.room } in t) c.self.view_is

pub returns-clause-running : goal.returns-clause-running
returns-clause-running c =
    subst (λ (v : Timers). AreRunning v.armed) c.self.view_is (running_at c.self.inside.passed (alarms c.self.inside.tree) c.self.invariant.0.later)
