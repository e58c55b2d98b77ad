use Rattle.std.proofs.Common.{◌≡◌, ◌+◌, ◌<◌, All, true, sym, ap, ◌∙◌, subst, arith, filter}
use Rattle.std.proofs.lemmas.List.Kept.{AllPairs-filter}
use Rattle.timer_wheel.specs.Order.{is_before}
use Rattle.timer_wheel.specs.Timers.{Timers, after_tick}
use Rattle.timer_wheel.specs.Inner.Tree.{alarms, not_fires, Rises}
use Rattle.timer_wheel.specs.Inner.Turning.{armed_at}
use Rattle.timer_wheel.proofs.Turns.{after_at, later_after}
use Rattle.timer_wheel.proofs.wheel.Wheel.advance.Goals as goal

pub invariant_of-self : goal.invariant_of-self
invariant_of-self c =
    let tick = c.counted_anew.result + 1 in
    let list = alarms c.counted_anew.new.tree in
    let is : alarms c.without_due.result ≡ filter (not_fires tick) list = rw c.take.ensures at c.without_due.ensures.alarms in (
      record {
        sound = c.without_due.ensures.sound;
        rising = subst Rises (sym is) (AllPairs-filter (λ a b. is_before a.due b.due ≡ true) (not_fires tick) list c.counted_anew.ensures.turned.rising);
        later = subst (All (λ a. tick < a.tick)) (sym is) (later_after tick list);
      },
      omega (arith, c.counted_anew.ensures.count, c.self.invariant.1, rw c.take.ensures at c.without_due.ensures.nodes),
      omega (arith, c.self.invariant.2, c.without_due.ensures.capacity),
      omega (arith, c.counted_anew.ensures.below),
    )

pub returns : goal.returns
returns c =
    let tick = c.counted_anew.result + 1 in
    let list = alarms c.counted_anew.new.tree in
    let is : alarms c.without_due.result ≡ filter (not_fires tick) list = rw c.take.ensures at c.without_due.ensures.alarms in
    ap (λ l. let t : Timers = record { armed = l; room = c.self.inside.room } in t)
    (ap (armed_at tick) is ∙ sym (after_at c.counted_anew.result list c.counted_anew.ensures.turned.later) ∙ ap after_tick c.counted_anew.ensures.same)
    ∙ ap (λ (v : Timers). let t : Timers = record { armed = after_tick v.armed; room = v.room } in t) c.self.view_is
