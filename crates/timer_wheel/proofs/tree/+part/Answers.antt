use Rattle.std.proofs.Common.{rules, length, length-append, ◌≡◌, ◌∷◌, ◌++◌, true, false, refl, sym, ◌∙◌, ap, arith}
use Rattle.timer_wheel.specs.Order.{is_before}
use Rattle.timer_wheel.specs.Inner.Tree.{alarms}
use Rattle.timer_wheel.proofs.Order.{rising_at, right_parted, left_parted, root_parted}
use Rattle.timer_wheel.proofs.tree.+part.Goals as goal

pub part-before-requires : goal.part-before-requires
part-before-requires t c =
    let root : alarms c.args.tree ≡ alarms c.open-left.result.0 ++ c.open-left.result.1.value.alarm ∷ alarms c.open-left.result.2 =
    rw (c.in-Fork.is, c.open-left.ensures.left, c.open-left.ensures.alarm, c.open-left.ensures.right) refl in
    let rising = rising_at _ _ _ _ root c.requires.rising in
    let size = ap length root ∙ length-append (alarms c.open-left.result.0) (c.open-left.result.1.value.alarm ∷ alarms c.open-left.result.2) in
    (omega (arith, c.decreases, size), (search rules, (rising.right_ordered, omega (arith, c.requires.room, size))))

pub part-before-requires-then-is_before-2 : goal.part-before-requires-then-is_before-2
part-before-requires-then-is_before-2 t c =
    let root : alarms c.args.tree ≡ alarms c.open-left.result.0 ++ c.open-left.result.1.value.alarm ∷ alarms c.open-left.result.2 =
    rw (c.in-Fork.is, c.open-left.ensures.left, c.open-left.ensures.alarm, c.open-left.ensures.right) refl in
    let rising = rising_at _ _ _ _ root c.requires.rising in
    let size = ap length root ∙ length-append (alarms c.open-left.result.0) (c.open-left.result.1.value.alarm ∷ alarms c.open-left.result.2) in
    (omega (arith, c.decreases, size), (search rules, (rising.left_ordered, omega (arith, c.requires.room, size))))

pub returns-then-is_before-clause-before : goal.returns-then-is_before-clause-before
returns-then-is_before-clause-before t c =
    let root : alarms c.args.tree ≡ alarms c.open-left.result.0 ++ c.open-left.result.1.value.alarm ∷ alarms c.open-left.result.2 =
    rw (c.in-Fork.is, c.open-left.ensures.left, c.open-left.ensures.alarm, c.open-left.ensures.right) refl in
    let first : is_before c.open-left.result.1.value.alarm.due c.args.due ≡ true = rw (sym c.deref.ensures) (sym c.is_before.ensures ∙ c.if-is_before.true) in
    let parted = right_parted c.args.due _ _ _ _ root c.requires.rising first in
    c.fork.ensures.alarms ∙ ap (λ l. alarms c.open-left.result.0 ++ c.open-left.result.1.value.alarm ∷ l) c.part-before.ensures.before ∙ sym parted.front_is

pub returns-then-is_before-clause-behind : goal.returns-then-is_before-clause-behind
returns-then-is_before-clause-behind t c =
    let root : alarms c.args.tree ≡ alarms c.open-left.result.0 ++ c.open-left.result.1.value.alarm ∷ alarms c.open-left.result.2 =
    rw (c.in-Fork.is, c.open-left.ensures.left, c.open-left.ensures.alarm, c.open-left.ensures.right) refl in
    let first : is_before c.open-left.result.1.value.alarm.due c.args.due ≡ true = rw (sym c.deref.ensures) (sym c.is_before.ensures ∙ c.if-is_before.true) in
    let parted = right_parted c.args.due _ _ _ _ root c.requires.rising first in
    c.part-before.ensures.behind ∙ sym parted.back_is

pub returns-then-is_before-2-clause-before : goal.returns-then-is_before-2-clause-before
returns-then-is_before-2-clause-before t c =
    let root : alarms c.args.tree ≡ alarms c.open-left.result.0 ++ c.open-left.result.1.value.alarm ∷ alarms c.open-left.result.2 =
    rw (c.in-Fork.is, c.open-left.ensures.left, c.open-left.ensures.alarm, c.open-left.ensures.right) refl in
    let later : is_before c.args.due c.open-left.result.1.value.alarm.due ≡ true =
    rw (sym c.deref-else-is_before.ensures) (sym c.is_before-else-is_before.ensures ∙ c.if-is_before-2.true) in
    let parted = left_parted c.args.due _ _ _ _ root c.requires.rising later in
    c.part-before-then-is_before-2.ensures.before ∙ sym parted.front_is

pub returns-then-is_before-2-clause-behind : goal.returns-then-is_before-2-clause-behind
returns-then-is_before-2-clause-behind t c =
    let root : alarms c.args.tree ≡ alarms c.open-left.result.0 ++ c.open-left.result.1.value.alarm ∷ alarms c.open-left.result.2 =
    rw (c.in-Fork.is, c.open-left.ensures.left, c.open-left.ensures.alarm, c.open-left.ensures.right) refl in
    let later : is_before c.args.due c.open-left.result.1.value.alarm.due ≡ true =
    rw (sym c.deref-else-is_before.ensures) (sym c.is_before-else-is_before.ensures ∙ c.if-is_before-2.true) in
    let parted = left_parted c.args.due _ _ _ _ root c.requires.rising later in
    c.fork-then-is_before-2.ensures.alarms ∙ ap (λ l. l ++ c.open-left.result.1.value.alarm ∷ alarms c.open-left.result.2) c.part-before-then-is_before-2.ensures.behind ∙ sym parted.back_is

pub returns-else-is_before-2-clause-before : goal.returns-else-is_before-2-clause-before
returns-else-is_before-2-clause-before t c =
    let root : alarms c.args.tree ≡ alarms c.open-left.result.0 ++ c.open-left.result.1.value.alarm ∷ alarms c.open-left.result.2 =
    rw (c.in-Fork.is, c.open-left.ensures.left, c.open-left.ensures.alarm, c.open-left.ensures.right) refl in
    let not_first : is_before c.open-left.result.1.value.alarm.due c.args.due ≡ false = rw (sym c.deref.ensures) (sym c.is_before.ensures ∙ c.if-is_before.false) in
    let not_later : is_before c.args.due c.open-left.result.1.value.alarm.due ≡ false =
    rw (sym c.deref-else-is_before.ensures) (sym c.is_before-else-is_before.ensures ∙ c.if-is_before-2.false) in
    let parted = root_parted c.args.due _ _ _ _ root c.requires.rising not_first not_later in
    sym parted.front_is

pub returns-else-is_before-2-clause-behind : goal.returns-else-is_before-2-clause-behind
returns-else-is_before-2-clause-behind t c =
    let root : alarms c.args.tree ≡ alarms c.open-left.result.0 ++ c.open-left.result.1.value.alarm ∷ alarms c.open-left.result.2 =
    rw (c.in-Fork.is, c.open-left.ensures.left, c.open-left.ensures.alarm, c.open-left.ensures.right) refl in
    let not_first : is_before c.open-left.result.1.value.alarm.due c.args.due ≡ false = rw (sym c.deref.ensures) (sym c.is_before.ensures ∙ c.if-is_before.false) in
    let not_later : is_before c.args.due c.open-left.result.1.value.alarm.due ≡ false =
    rw (sym c.deref-else-is_before.ensures) (sym c.is_before-else-is_before.ensures ∙ c.if-is_before-2.false) in
    let parted = root_parted c.args.due _ _ _ _ root c.requires.rising not_first not_later in
    sym parted.back_is
