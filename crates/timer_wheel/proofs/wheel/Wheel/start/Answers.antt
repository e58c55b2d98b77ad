use Rattle.std.proofs.Common.{◌≡◌, ◌+◌, [], ◌∷◌, ◌++◌, sym, ap, ◌∙◌, subst, arith, All, ◌<◌}
use Rattle.std.proofs.lemmas.List.Elements.{All-nil, All-cons}
use Rattle.timer_wheel.specs.declared.due.Alarm.{Alarm}
use Rattle.timer_wheel.specs.Timers.{Timers, with_armed}
use Rattle.timer_wheel.specs.Inner.Tree.{alarms, Rises, before, behind}
use Rattle.timer_wheel.specs.Inner.Turning.{armed_at}
use Rattle.timer_wheel.proofs.Order.{all_again}
use Rattle.timer_wheel.proofs.Turns.{with_at, others_count, rises_with}
use Rattle.timer_wheel.proofs.wheel.Wheel.start.Goals as goal

pub with-tree-requires-clause-room : goal.with-tree-requires-clause-room
with-tree-requires-clause-room c =
    let due = c.args.due in
    let fewer = rw (sym c.self.view_is) at c.requires.room in
    let count = others_count c.self.inside.passed due (alarms c.self.inside.tree) c.self.invariant.0.rising in
    rw c.take.ensures (omega (arith, fewer, count, c.self.invariant.1))

pub invariant_of-self : goal.invariant_of-self
invariant_of-self c =
    let due = c.args.due in
    let list = alarms c.self.inside.tree in
    let alarm : Alarm = record { due = due; tick = c.self.inside.passed + c.args.ticks; interval = c.args.interval } in
    let is : alarms c.with-tree.result.0 ≡ before due list ++ alarm ∷ behind due list =
    rw c.take.ensures at c.with-tree.ensures.alarms
    ∙ ap (λ n. let a : Alarm = record { due = due; tick = c.self.inside.passed + n; interval = c.args.interval } in before due list ++ a ∷ behind due list) c.from.ensures in
    let turned = c.self.invariant.0 in (
      record {
        sound = c.with-tree.ensures.sound;
        rising = subst Rises (sym is) (rises_with alarm list turned.rising);
        later = subst (All (λ a. c.self.inside.passed < a.tick)) (sym is)
            (all_again (λ a. c.self.inside.passed < a.tick) due (alarm ∷ []) list
            (All-cons (λ a. c.self.inside.passed < a.tick) alarm [] (omega (arith, c.requires.ticks)) (All-nil _)) turned.later);
      },
      omega (arith, c.self.invariant.1, rw c.take.ensures at c.with-tree.ensures.nodes),
      omega (arith, c.self.invariant.2, c.with-tree.ensures.capacity),
      c.self.invariant.3,
    )

pub returns : goal.returns
returns c =
    let due = c.args.due in
    let list = alarms c.self.inside.tree in
    let alarm : Alarm = record { due = due; tick = c.self.inside.passed + c.args.ticks; interval = c.args.interval } in
    let is : alarms c.with-tree.result.0 ≡ before due list ++ alarm ∷ behind due list =
    rw c.take.ensures at c.with-tree.ensures.alarms
    ∙ ap (λ n. let a : Alarm = record { due = due; tick = c.self.inside.passed + n; interval = c.args.interval } in before due list ++ a ∷ behind due list) c.from.ensures in
    ap (λ l. let t : Timers = record { armed = l; room = c.self.inside.room } in t)
    (ap (armed_at c.self.inside.passed) is ∙ sym (with_at c.self.inside.passed c.args.ticks c.args.interval due list))
    ∙ ap (λ (v : Timers). let t : Timers = record { armed = with_armed (record { due = due; ticks = c.args.ticks; interval = c.args.interval }) v.armed; room = v.room } in t) c.self.view_is
