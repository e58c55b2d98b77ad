use Rattle.std.proofs.Common.{rules, length, length-append, ◌≡◌, ◌≤◌, ◌∷◌, ◌++◌, [], All, true, false, refl, sym, ◌∙◌, ap, ap₂, arith}
use Rattle.std.proofs.lemmas.List.Elements.{All-nil, All-cons}
use Rattle.timer_wheel.specs.Order.{is_before}
use Rattle.timer_wheel.specs.Inner.Tree.{alarms, before, behind}
use Rattle.timer_wheel.proofs.Order.{rising_at, right_parted, left_parted, root_parted, right_again, left_again, soonest_again}
use Rattle.timer_wheel.proofs.tree.+with.Goals as goal

pub with-right-requires : goal.with-right-requires
with-right-requires t c =
    let root : alarms c.args.tree ≡ alarms c.open-left.result.0 ++ c.open-left.result.1.value.alarm ∷ alarms c.open-left.result.2 =
    rw (c.in-Fork.is, c.open-left.ensures.left, c.open-left.ensures.alarm, c.open-left.ensures.right) refl in
    let rising = rising_at _ _ _ _ root c.requires.rising in
    let size = ap length root ∙ length-append (alarms c.open-left.result.0) (c.open-left.result.1.value.alarm ∷ alarms c.open-left.result.2) in
    let first : is_before c.open-left.result.1.value.alarm.due c.args.alarm.due ≡ true = rw (sym c.deref-in-Fork.ensures) (sym c.is_before.ensures ∙ c.if-is_before.true) in
    let parted = right_parted c.args.alarm.due _ _ _ _ root c.requires.rising first in
    let front = ap length parted.front_is ∙ length-append (alarms c.open-left.result.0) (c.open-left.result.1.value.alarm ∷ before c.args.alarm.due (alarms c.open-left.result.2)) in
    (omega (arith, c.decreases, size), (search rules, (rising.right_ordered, (omega (arith, c.requires.nodes, size), omega (arith, c.requires.room, size, front, ap length parted.back_is)))))

pub fork_again-requires-clause-soonest : goal.fork_again-requires-clause-soonest
fork_again-requires-clause-soonest t c =
    let root : alarms c.args.tree ≡ alarms c.open-left.result.0 ++ c.open-left.result.1.value.alarm ∷ alarms c.open-left.result.2 =
    rw (c.in-Fork.is, c.open-left.ensures.left, c.open-left.ensures.alarm, c.open-left.ensures.right) refl in
    let first : is_before c.open-left.result.1.value.alarm.due c.args.alarm.due ≡ true = rw (sym c.deref-in-Fork.ensures) (sym c.is_before.ensures ∙ c.if-is_before.true) in
    let bound : All (λ a. c.open-left.result.1.value.soonest ≤ a.tick) (alarms c.args.tree) =
    let sound = rw c.in-Fork.is at c.requires.sound in rw (c.in-Fork.is, c.open-left.ensures.soonest) sound.2 in
    soonest_again c.args.alarm.due (c.args.alarm ∷ []) (alarms c.args.tree) _ c.open-left.result.1.value.soonest c.args.alarm.tick (All-cons (λ a. c.args.alarm.tick ≤ a.tick) c.args.alarm [] (omega arith) (All-nil _)) bound
    (right_again c.args.alarm.due (c.args.alarm ∷ []) _ _ _ _ _ root c.requires.rising first c.with-right.ensures.alarms)

pub with-left-requires : goal.with-left-requires
with-left-requires t c =
    let root : alarms c.args.tree ≡ alarms c.open-left.result.0 ++ c.open-left.result.1.value.alarm ∷ alarms c.open-left.result.2 =
    rw (c.in-Fork.is, c.open-left.ensures.left, c.open-left.ensures.alarm, c.open-left.ensures.right) refl in
    let rising = rising_at _ _ _ _ root c.requires.rising in
    let size = ap length root ∙ length-append (alarms c.open-left.result.0) (c.open-left.result.1.value.alarm ∷ alarms c.open-left.result.2) in
    let later : is_before c.args.alarm.due c.open-left.result.1.value.alarm.due ≡ true =
    rw (sym c.deref-else-is_before.ensures) (sym c.is_before-else-is_before.ensures ∙ c.if-is_before-2.true) in
    let parted = left_parted c.args.alarm.due _ _ _ _ root c.requires.rising later in
    let back = ap length parted.back_is ∙ length-append (behind c.args.alarm.due (alarms c.open-left.result.0)) (c.open-left.result.1.value.alarm ∷ alarms c.open-left.result.2) in
    (omega (arith, c.decreases, size), (search rules, (rising.left_ordered, (omega (arith, c.requires.nodes, size), omega (arith, c.requires.room, size, ap length parted.front_is, back)))))

pub fork_again-requires-then-is_before-2-clause-soonest : goal.fork_again-requires-then-is_before-2-clause-soonest
fork_again-requires-then-is_before-2-clause-soonest t c =
    let root : alarms c.args.tree ≡ alarms c.open-left.result.0 ++ c.open-left.result.1.value.alarm ∷ alarms c.open-left.result.2 =
    rw (c.in-Fork.is, c.open-left.ensures.left, c.open-left.ensures.alarm, c.open-left.ensures.right) refl in
    let later : is_before c.args.alarm.due c.open-left.result.1.value.alarm.due ≡ true =
    rw (sym c.deref-else-is_before.ensures) (sym c.is_before-else-is_before.ensures ∙ c.if-is_before-2.true) in
    let bound : All (λ a. c.open-left.result.1.value.soonest ≤ a.tick) (alarms c.args.tree) =
    let sound = rw c.in-Fork.is at c.requires.sound in rw (c.in-Fork.is, c.open-left.ensures.soonest) sound.2 in
    soonest_again c.args.alarm.due (c.args.alarm ∷ []) (alarms c.args.tree) _ c.open-left.result.1.value.soonest c.args.alarm.tick (All-cons (λ a. c.args.alarm.tick ≤ a.tick) c.args.alarm [] (omega arith) (All-nil _)) bound
    (left_again c.args.alarm.due (c.args.alarm ∷ []) _ _ _ _ _ root c.requires.rising later c.with-left.ensures.alarms)

pub returns-then-is_before-clause-alarms : goal.returns-then-is_before-clause-alarms
returns-then-is_before-clause-alarms t c =
    let root : alarms c.args.tree ≡ alarms c.open-left.result.0 ++ c.open-left.result.1.value.alarm ∷ alarms c.open-left.result.2 =
    rw (c.in-Fork.is, c.open-left.ensures.left, c.open-left.ensures.alarm, c.open-left.ensures.right) refl in
    let first : is_before c.open-left.result.1.value.alarm.due c.args.alarm.due ≡ true = rw (sym c.deref-in-Fork.ensures) (sym c.is_before.ensures ∙ c.if-is_before.true) in
    c.fork_again.ensures.alarms ∙ right_again c.args.alarm.due (c.args.alarm ∷ []) _ _ _ _ _ root c.requires.rising first c.with-right.ensures.alarms

pub returns-then-is_before-2-clause-alarms : goal.returns-then-is_before-2-clause-alarms
returns-then-is_before-2-clause-alarms t c =
    let root : alarms c.args.tree ≡ alarms c.open-left.result.0 ++ c.open-left.result.1.value.alarm ∷ alarms c.open-left.result.2 =
    rw (c.in-Fork.is, c.open-left.ensures.left, c.open-left.ensures.alarm, c.open-left.ensures.right) refl in
    let later : is_before c.args.alarm.due c.open-left.result.1.value.alarm.due ≡ true =
    rw (sym c.deref-else-is_before.ensures) (sym c.is_before-else-is_before.ensures ∙ c.if-is_before-2.true) in
    c.fork_again-then-is_before-2.ensures.alarms ∙ left_again c.args.alarm.due (c.args.alarm ∷ []) _ _ _ _ _ root c.requires.rising later c.with-left.ensures.alarms

pub returns-else-is_before-2-clause-alarms : goal.returns-else-is_before-2-clause-alarms
returns-else-is_before-2-clause-alarms t c =
    let root : alarms c.args.tree ≡ alarms c.open-left.result.0 ++ c.open-left.result.1.value.alarm ∷ alarms c.open-left.result.2 =
    rw (c.in-Fork.is, c.open-left.ensures.left, c.open-left.ensures.alarm, c.open-left.ensures.right) refl in
    let not_first : is_before c.open-left.result.1.value.alarm.due c.args.alarm.due ≡ false = rw (sym c.deref-in-Fork.ensures) (sym c.is_before.ensures ∙ c.if-is_before.false) in
    let not_later : is_before c.args.alarm.due c.open-left.result.1.value.alarm.due ≡ false =
    rw (sym c.deref-else-is_before.ensures) (sym c.is_before-else-is_before.ensures ∙ c.if-is_before-2.false) in
    let parted = root_parted c.args.alarm.due _ _ _ _ root c.requires.rising not_first not_later in
    c.fork.ensures.alarms ∙ ap (λ a. alarms c.open-left.result.0 ++ a ∷ alarms c.open-left.result.2) c.replace-went.ensures.after
    ∙ ap₂ (λ f b. f ++ c.args.alarm ∷ b) (sym parted.front_is) (sym parted.back_is)
