use Rattle.std.proofs.Common.{◌≡◌, [], ◌++◌, sym, ap, ◌∙◌, subst, arith, All, ◌<◌}
use Rattle.std.proofs.lemmas.List.Elements.{All-nil}
use Rattle.timer_wheel.specs.Timers.{Timers, timer_of, others}
use Rattle.timer_wheel.specs.Inner.Tree.{alarms, Rises, before, behind}
use Rattle.timer_wheel.specs.Inner.Turning.{armed_at}
use Rattle.timer_wheel.proofs.Order.{all_again}
use Rattle.timer_wheel.proofs.Turns.{others_at, rises_without}
use Rattle.timer_wheel.proofs.wheel.Wheel.cancel.Goals as goal

pub invariant_of-self : goal.invariant_of-self
invariant_of-self c =
    let due = timer_of c.args.conn c.args.timer in
    let list = alarms c.self.inside.tree in
    let turned = c.self.invariant.0 in
    let is : alarms c.without-tree.result.0 ≡ before due list ++ behind due list = rw c.take.ensures at c.without-tree.ensures.alarms in (
      record {
        sound = c.without-tree.ensures.sound;
        rising = subst Rises (sym is) (rises_without due list turned.rising);
        later = subst (All (λ a. c.self.inside.passed < a.tick)) (sym is)
            (all_again (λ a. c.self.inside.passed < a.tick) due [] list (All-nil _) turned.later);
      },
      omega (arith, c.self.invariant.1, rw c.take.ensures at c.without-tree.ensures.nodes),
      omega (arith, c.self.invariant.2, c.without-tree.ensures.capacity),
      c.self.invariant.3,
    )

pub returns : goal.returns
returns c =
    let due = timer_of c.args.conn c.args.timer in
    let list = alarms c.self.inside.tree in
    let is : alarms c.without-tree.result.0 ≡ before due list ++ behind due list = rw c.take.ensures at c.without-tree.ensures.alarms in
    ap (λ l. let t : Timers = record { armed = l; room = c.self.inside.room } in t)
    (ap (armed_at c.self.inside.passed) is ∙ sym (others_at c.self.inside.passed due list c.self.invariant.0.rising))
    ∙ ap (λ (v : Timers). let t : Timers = record { armed = others due v.armed; room = v.room } in t) c.self.view_is
