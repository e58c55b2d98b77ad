-- The timers of a wheel once one is started or stopped, or a tick is taken.
use Rattle.std.proofs.Common.{◌≡◌, ℕ, ◌+◌, ◌-◌, ◌==◌, ◌<◌, ◌≤◌, ◌||◌, not, Bool, true, false, List, [], ◌∷◌, ◌++◌, length, map, filter, get_or, take, drop, All, cond, option_to_list, Option, Some, None, inl, inr, refl, sym, subst, ap, ap₂, ◌∙◌, arith, append-nil, length-append}
use Rattle.std.specs.List.{list_any}
use Rattle.std.proofs.Math.Bool.{or-false}
use Rattle.std.proofs.lemmas.Bool.{both_ways, false_from_ne_true, true_from_ne_false, not_from_true, not_from_false, cases_eq, or_left, or_right, or_parts}
use Rattle.std.proofs.lemmas.List.{length-map}
use Rattle.std.proofs.lemmas.List.Elements.{filter-append, All-head, All-tail}
use Rattle.std.proofs.lemmas.List.Folds.{list_any-append}
use Rattle.timer_wheel.specs.declared.due.Due.{Due}
use Rattle.timer_wheel.specs.Order.{is_before}
use Rattle.timer_wheel.specs.Timers.{Armed, timer_of, is_timer, others, with_timer, before, behind, due_now, lowered, after_tick, IsRising}
use Rattle.timer_wheel.proofs.Order.{before-asym, neither-same, head_of, tail_of}
use Rattle.conn_journal.specs.Inner.Waking.{is_in, AreRising}
use Rattle.conn_lane.specs.Inner.Wheels.{ticks_of, with_ticks, is_due, SetsOne, SetsFirst, AreOrdered, AreConnections}
use Rattle.conn_journal.proofs.Ticked.{take_next, drop_next, take_whole}

-- Lists.

filter_apart : {X : Type 0} (p q : X → Bool) → ((x : X) → p x ≡ true → q x ≡ false) → (xs : List X) → filter p (filter q xs) ≡ []
filter_apart p q apart [] = refl
filter_apart p q apart (x ∷ xs) = by_test (q x) refl (filter_apart p q apart xs)
  where
    by_test : (b : Bool) → q x ≡ b → filter p (filter q xs) ≡ [] → filter p (filter q (x ∷ xs)) ≡ []
    by_test true is rest = let fails = false_from_ne_true (p x) (λ e. both_ways (q x) (apart x e) is) in rw (is, fails) rest
    by_test false is rest = rw is rest

filter_within : {X : Type 0} (p q : X → Bool) → ((x : X) → p x ≡ true → q x ≡ true) → (xs : List X) → filter p (filter q xs) ≡ filter p xs
filter_within p q within [] = refl
filter_within p q within (x ∷ xs) = by_test (q x) refl (filter_within p q within xs)
  where
    by_test : (b : Bool) → q x ≡ b → filter p (filter q xs) ≡ filter p xs → filter p (filter q (x ∷ xs)) ≡ filter p (x ∷ xs)
    by_test true is rest = rw is (ap (λ ys. cond (p x) (x ∷ ys) ys) rest)
    by_test false is rest = let fails = false_from_ne_true (p x) (λ e. both_ways (q x) is (within x e)) in rw (is, fails) rest

pub kept_length : {X : Type 0} (p : X → Bool) (xs : List X) → length (filter p xs) ≤ length xs
kept_length p [] = omega arith
kept_length p (x ∷ xs) = by_test (p x) refl (kept_length p xs)
  where
    by_test : (b : Bool) → p x ≡ b → length (filter p xs) ≤ length xs → length (filter p (x ∷ xs)) ≤ length (x ∷ xs)
    by_test true is rest = rw is (omega (arith, rest))
    by_test false is rest = rw is (omega (arith, rest))

-- One timer.

timer_is : (due : Due) (a : Armed) → is_timer due a ≡ true → a.due ≡ due
timer_is due a is = grind (arith, is)

own_timer : (due : Due) (ticks : ℕ) → is_timer due (record { due = due; ticks = ticks; interval = ticks }) ≡ true
own_timer due ticks = grind arith

other_timer : (due other : Due) (a : Armed) → (other ≡ due → ⊥) → is_timer other a ≡ true → is_timer due a ≡ false
other_timer due other a apart is = false_from_ne_true (is_timer due a) (λ e. apart (sym (timer_is other a is) ∙ timer_is due a e))

not_before : (due : Due) (a : Armed) → is_timer due a ≡ true → is_before a.due due ≡ false
not_before due a is = grind (arith, is)

not_behind : (due : Due) (a : Armed) → is_timer due a ≡ true → is_before due a.due ≡ false
not_behind due a is = grind (arith, is)

stopped : (due : Due) (armed : List Armed) → ticks_of due (others due armed) ≡ []
stopped due armed = ap (map (λ (a : Armed). a.ticks)) (filter_apart (is_timer due) (λ a. not (is_timer due a)) (λ a is. not_from_true (is_timer due a) is) armed)

stopped_other : (due other : Due) (armed : List Armed) → (other ≡ due → ⊥) → ticks_of other (others due armed) ≡ ticks_of other armed
stopped_other due other armed apart =
    ap (map (λ (a : Armed). a.ticks))
    (filter_within (is_timer other) (λ a. not (is_timer due a)) (λ a is. not_from_false (is_timer due a) (other_timer due other a apart is)) armed)

started : (due : Due) (ticks : ℕ) (armed : List Armed) → ticks_of due (with_timer due ticks armed) ≡ ticks ∷ []
started due ticks armed =
    let new : Armed = record { due = due; ticks = ticks; interval = ticks } in
    let own = own_timer due ticks in
    ap (map (λ (a : Armed). a.ticks))
    (filter-append (is_timer due) (before due armed) (new ∷ behind due armed)
    ∙ ap₂ (λ xs ys. xs ++ ys) (filter_apart (is_timer due) (λ a. is_before a.due due) (not_before due) armed)
    (ap (λ b. cond b (new ∷ filter (is_timer due) (behind due armed)) (filter (is_timer due) (behind due armed))) own
    ∙ ap (λ xs. new ∷ xs) (filter_apart (is_timer due) (λ a. is_before due a.due) (not_behind due) armed)))

-- the others are those before it, or those behind it
started_other : (due other : Due) (ticks : ℕ) (armed : List Armed) → (other ≡ due → ⊥) → ticks_of other (with_timer due ticks armed) ≡ ticks_of other armed
started_other due other ticks armed apart =
    ap (map (λ (a : Armed). a.ticks)) (filter-append p (before due armed) (new ∷ behind due armed) ∙ (ap (λ xs. filter p (before due armed) ++ xs) passes ∙ by_order (is_before other due) refl))
  where
    new : Armed
    new = record { due = due; ticks = ticks; interval = ticks }

    p : Armed → Bool
    p = is_timer other

    passes : filter p (new ∷ behind due armed) ≡ filter p (behind due armed)
    passes =
        let fails : p new ≡ false = false_from_ne_true (p new) (λ e. apart (sym (timer_is other new e))) in
        ap (λ b. cond b (new ∷ filter p (behind due armed)) (filter p (behind due armed))) fails

    by_order : (b : Bool) → is_before other due ≡ b → filter p (before due armed) ++ filter p (behind due armed) ≡ filter p armed
    by_order true is =
        ap₂ (λ xs ys. xs ++ ys) (filter_within p (λ a. is_before a.due due) (λ a e. ap (λ d. is_before d due) (timer_is other a e) ∙ is) armed)
        (filter_apart p (λ a. is_before due a.due) (λ a e. ap (λ d. is_before due d) (timer_is other a e) ∙ before-asym other due is) armed)
        ∙ append-nil (filter p armed)
    by_order false is =
        let later : is_before due other ≡ true = true_from_ne_false (is_before due other) (λ e. apart (neither-same other due is e)) in
        ap₂ (λ xs ys. xs ++ ys) (filter_apart p (λ a. is_before a.due due) (λ a e. ap (λ d. is_before d due) (timer_is other a e) ∙ is) armed)
        (filter_within p (λ a. is_before due a.due) (λ a e. ap (λ d. is_before due d) (timer_is other a e) ∙ later) armed)

set_own : (due : Due) (left : Option ℕ) (armed : List Armed) → ticks_of due (with_ticks due left armed) ≡ option_to_list left
set_own due None armed = stopped due armed
set_own due (Some ticks) armed = started due ticks armed

set_other : (due other : Due) (left : Option ℕ) (armed : List Armed) → (other ≡ due → ⊥) → ticks_of other (with_ticks due left armed) ≡ ticks_of other armed
set_other due other None armed apart = stopped_other due other armed apart
set_other due other (Some ticks) armed apart = started_other due other ticks armed apart

-- Room.

parted_length : (due : Due) (xs : List Armed) → length (before due xs) + length (behind due xs) ≤ length xs
parted_length due [] = omega arith
parted_length due (x ∷ xs) = by_test (is_before x.due due) (is_before due x.due) refl refl (parted_length due xs)
  where
    by_test : (a b : Bool) → is_before x.due due ≡ a → is_before due x.due ≡ b → length (before due xs) + length (behind due xs) ≤ length xs → length (before due (x ∷ xs)) + length (behind due (x ∷ xs)) ≤ length (x ∷ xs)
    by_test true true is so rest = absurd (both_ways (is_before due x.due) (before-asym x.due due is) so)
    by_test true false is so rest = rw (is, so) (omega (arith, rest))
    by_test false true is so rest = rw (is, so) (omega (arith, rest))
    by_test false false is so rest = rw (is, so) (omega (arith, rest))

pub others_length : (due : Due) (armed : List Armed) → length (others due armed) ≤ length armed
others_length due armed = kept_length (λ a. not (is_timer due a)) armed

set_length : (due : Due) (left : Option ℕ) (armed : List Armed) → length (with_ticks due left armed) ≤ length armed + 1
set_length due None armed = omega (arith, others_length due armed)
set_length due (Some ticks) armed =
    omega (arith, length-append (before due armed) (record { due = due; ticks = ticks; interval = ticks } ∷ behind due armed), parted_length due armed)

pub tick_length : (armed : List Armed) → length (after_tick armed) ≤ length armed
tick_length armed =
    omega (arith, length-map (filter (λ (a : Armed). not (a.ticks == 1)) armed) lowered, kept_length (λ (a : Armed). not (a.ticks == 1)) armed)

-- The timers of a connection.

pub one_set : (due : Due) (left : Option ℕ) (armed : List Armed) → SetsOne due left armed (with_ticks due left armed)
one_set due left armed =
    record { own = set_own due left armed; others = λ other apart. set_other due other left armed apart; few = set_length due left armed }

pub none_set : (left : ℕ → Option ℕ) (number : ℕ) (armed : List Armed) → SetsFirst number 0 left armed armed
none_set left number armed =
    record { own = λ timer within. absurd (omega (arith, within)); others = λ other apart. refl; few = omega arith }

pub next_set : (left : ℕ → Option ℕ) (number count : ℕ) (old armed later : List Armed) → SetsFirst number count left old armed → SetsOne (timer_of number count) (left count) armed later
    → SetsFirst number (count + 1) left old later
next_set left number count old armed later so next =
    record {
      own = λ timer within. elim (cases_eq timer count) [
        | inl same ↦ ap (λ t. ticks_of (timer_of number t) later) same ∙ (next.own ∙ ap (λ t. option_to_list (left t)) (sym same))
        | inr apart ↦ next.others (timer_of number timer) (λ e. apart (ap (λ (d : Due). d.timer) e)) ∙ so.own timer (omega (arith, within, apart))
      ];
      others = λ other apart. next.others other (apart count (omega arith)) ∙ so.others other (λ timer within. apart timer (omega (arith, within)));
      few = omega (arith, next.few, so.few);
    }

-- a timer that isn't set yet
pub not_yet_set : (left : ℕ → Option ℕ) (number count : ℕ) (old armed : List Armed) → SetsFirst number count left old armed
    → ticks_of (timer_of number count) armed ≡ ticks_of (timer_of number count) old
not_yet_set left number count old armed so = so.others (timer_of number count) (λ t below e. omega (arith, below, ap (λ (d : Due). d.timer) e))

-- A tick.

-- what a tick leaves: it drops what is due
abbrev pub ticks_after : List ℕ → List ℕ
ticks_after ticks = map (λ n. n - 1) (filter (λ n. not (n == 1)) ticks)

pub ticked : (due : Due) (armed : List Armed) → ticks_of due (after_tick armed) ≡ ticks_after (ticks_of due armed)
ticked due [] = refl
ticked due (a ∷ armed) = by_test (a.ticks == 1) (is_timer due a) refl refl (ticked due armed)
  where
    by_test : (b c : Bool) → (a.ticks == 1) ≡ b → is_timer due a ≡ c → ticks_of due (after_tick armed) ≡ ticks_after (ticks_of due armed) → ticks_of due (after_tick (a ∷ armed)) ≡ ticks_after (ticks_of due (a ∷ armed))
    by_test true true is so rest = rw (is, so) (rw is rest)
    by_test true false is so rest = rw (is, so) rest
    by_test false true is so rest = rw (is, so) (rw is (ap (λ xs. (a.ticks - 1) ∷ xs) rest))
    by_test false false is so rest = rw (is, so) rest

due_first : (n : ℕ) (a : Armed) (armed : List Armed) → (a.ticks == 1) ≡ true → is_due n (due_now (a ∷ armed)) ≡ false → is_due n (a.due ∷ due_now armed) ≡ false
due_first n a armed is e = subst (λ b. is_due n (map (λ (x : Armed). x.due) (cond b (a ∷ filter (λ (x : Armed). x.ticks == 1) armed) (filter (λ (x : Armed). x.ticks == 1) armed))) ≡ false) is e

due_later : (n : ℕ) (a : Armed) (armed : List Armed) → (a.ticks == 1) ≡ false → is_due n (due_now (a ∷ armed)) ≡ false → is_due n (due_now armed) ≡ false
due_later n a armed is e = subst (λ b. is_due n (map (λ (x : Armed). x.due) (cond b (a ∷ filter (λ (x : Armed). x.ticks == 1) armed) (filter (λ (x : Armed). x.ticks == 1) armed))) ≡ false) is e

of_other : (number timer : ℕ) (a : Armed) → (a.due.conn == number) ≡ false → is_timer (timer_of number timer) a ≡ false
of_other number timer a is = grind (arith, is)

of_own : (number : ℕ) (a : Armed) → (a.due.conn == number) ≡ true → is_timer (timer_of number a.due.timer) a ≡ true
of_own number a is = grind (arith, is)

-- a connection of which no timer is due has none of which one tick is left
pub none_due : (number timer : ℕ) (armed : List Armed) → is_due number (due_now armed) ≡ false → list_any (λ n. n == 1) (ticks_of (timer_of number timer) armed) ≡ false
none_due number timer [] free = refl
none_due number timer (a ∷ armed) free = by_test (a.ticks == 1) (is_timer (timer_of number timer) a) refl refl free (none_due number timer armed)
  where
    Rest : Type 0
    Rest = is_due number (due_now armed) ≡ false → list_any (λ n. n == 1) (ticks_of (timer_of number timer) armed) ≡ false

    by_test : (b c : Bool) → (a.ticks == 1) ≡ b → is_timer (timer_of number timer) a ≡ c → is_due number (due_now (a ∷ armed)) ≡ false → Rest
        → list_any (λ n. n == 1) (ticks_of (timer_of number timer) (a ∷ armed)) ≡ false
    by_test true c is so e rest =
        let parts = or_parts (a.due.conn == number) (is_due number (due_now armed)) (due_first number a armed is e) in
        rw (of_other number timer a parts.0) (rest parts.1)
    by_test false true is so e rest = rw (so, is) (rest (due_later number a armed is e))
    by_test false false is so e rest = rw so (rest (due_later number a armed is e))

-- a connection that has no timer has none that is due
pub none_there : (number : ℕ) (armed : List Armed) → ((timer : ℕ) → ticks_of (timer_of number timer) armed ≡ []) → is_due number (due_now armed) ≡ false
none_there number [] none = refl
none_there number (a ∷ armed) none = by_own (a.due.conn == number) refl (λ e. none_there number armed e)
  where
    later : (a.due.conn == number) ≡ false → (timer : ℕ) → ticks_of (timer_of number timer) armed ≡ []
    later is timer =
        sym (ap (λ b. map (λ (x : Armed). x.ticks) (cond b (a ∷ filter (is_timer (timer_of number timer)) armed) (filter (is_timer (timer_of number timer)) armed))) (of_other number timer a is))
        ∙ none timer

    some : (a.due.conn == number) ≡ true → a.ticks ∷ ticks_of (timer_of number a.due.timer) armed ≡ []
    some is =
        sym (ap (λ b. map (λ (x : Armed). x.ticks) (cond b (a ∷ filter (is_timer (timer_of number a.due.timer)) armed) (filter (is_timer (timer_of number a.due.timer)) armed))) (of_own number a is))
        ∙ none a.due.timer

    by_test : (b : Bool) → (a.ticks == 1) ≡ b → (a.due.conn == number) ≡ false → is_due number (due_now armed) ≡ false → is_due number (due_now (a ∷ armed)) ≡ false
    by_test true is so rest = rw (is, so) rest
    by_test false is so rest = rw is rest

    by_own : (b : Bool) → (a.due.conn == number) ≡ b → (((timer : ℕ) → ticks_of (timer_of number timer) armed ≡ []) → is_due number (due_now armed) ≡ false) → is_due number (due_now (a ∷ armed)) ≡ false
    by_own true is rest = absurd (omega (arith, ap (λ xs. length xs) (some is)))
    by_own false is rest = by_test (a.ticks == 1) refl is (rest (later is))

-- What is due, in order.

not_lower : (a b : Due) → is_before a b ≡ true → a.conn ≤ b.conn
not_lower a b is = grind (arith, is)

abbrev before_all : Armed → Armed → Type 0
before_all earlier later = is_before earlier.due later.due ≡ true

pub due_ordered : (from : ℕ) (armed : List Armed) → IsRising armed → All (λ (a : Armed). from ≤ a.due.conn) armed → AreOrdered from (due_now armed)
due_ordered from [] rising above = tt
due_ordered from (a ∷ armed) rising above = by_test (a.ticks == 1) refl (λ n over. due_ordered n armed (tail_of before_all a armed rising) over)
  where
    by_test : (b : Bool) → (a.ticks == 1) ≡ b → ((n : ℕ) → All (λ (x : Armed). n ≤ x.due.conn) armed → AreOrdered n (due_now armed)) → AreOrdered from (due_now (a ∷ armed))
    by_test true is more = rw is (
      All-head (λ (x : Armed). from ≤ x.due.conn) a armed above,
      more a.due.conn (λ k d below. not_lower a.due (get_or armed k d).due (head_of before_all a armed rising k d below)),
    )
    by_test false is more = rw is (more from (All-tail (λ (x : Armed). from ≤ x.due.conn) a armed above))

-- The connections of timers, once.

-- so many timers were read, and their connections are those before this one
pub record Collected (due : List Due) (i next : ℕ) (numbers : List ℕ) : Type 0 where
  pub rising : AreRising next 0 numbers
  pub same : (n : ℕ) → is_in n numbers ≡ is_due n (take i due)
  pub last : (n : ℕ) → n + 1 ≡ next → is_in n numbers ≡ true
  pub rest : AreOrdered (next - 1) (drop i due)

pub collected_none : (due : List Due) → AreOrdered 0 due → Collected due 0 0 []
collected_none due ordered = record { rising = tt; same = λ n. refl; last = λ n is. absurd (omega (arith, is)); rest = ordered }

rising_push : (count from n : ℕ) (numbers : List ℕ) → from ≤ n → count ≤ n → AreRising count from numbers → AreRising (n + 1) from (numbers ++ n ∷ [])
rising_push count from n [] first above rising = (first, omega arith, tt)
rising_push count from n (m ∷ numbers) first above rising =
    (rising.0, omega (arith, rising.1, above), rising_push count (m + 1) n numbers (omega (arith, rising.1, above)) above rising.2)

due_next : (i n : ℕ) (due : List Due) (d : Due) → i < length due → d ≡ get_or due i d → is_due n (take (i + 1) due) ≡ (is_due n (take i due) || ((d.conn == n) || false))
due_next i n due d within here =
    ap (is_due n) (take_next i due d within ∙ ap (λ x. take i due ++ x ∷ []) (sym here)) ∙ list_any-append (λ (x : Due). x.conn == n) (take i due) (d ∷ [])

ordered_next : (i from : ℕ) (due : List Due) (d : Due) → i < length due → d ≡ get_or due i d → AreOrdered from (drop i due) → AreOrdered from (d ∷ drop (i + 1) due)
ordered_next i from due d within here rest = subst (AreOrdered from) (drop_next i due d within ∙ ap (λ x. x ∷ drop (i + 1) due) (sym here)) rest

-- one of a connection that is there
pub collected_again : (i next : ℕ) (due : List Due) (numbers : List ℕ) (d : Due) → i < length due → d ≡ get_or due i d → d.conn < next → Collected due i next numbers → Collected due (i + 1) next numbers
collected_again i next due numbers d within here less so =
    let rest : AreOrdered (next - 1) (d ∷ drop (i + 1) due) = ordered_next i (next - 1) due d within here so.rest in
    let conn : d.conn ≡ next - 1 = omega (arith, rest.0, less) in
    record {
      rising = so.rising;
      same = λ n. by_number n (d.conn == n) refl ∙ sym (due_next i n due d within here);
      last = so.last;
      rest = subst (λ m. AreOrdered m (drop (i + 1) due)) conn rest.1;
    }
  where
    by_number : (n : ℕ) (b : Bool) → (d.conn == n) ≡ b → is_in n numbers ≡ (is_due n (take i due) || ((d.conn == n) || false))
    by_number n true is =
        let rest : AreOrdered (next - 1) (d ∷ drop (i + 1) due) = ordered_next i (next - 1) due d within here so.rest in
        let there : is_in n numbers ≡ true = so.last n (grind (arith, is, rest.0, less)) in
        there ∙ sym (or_left (is_due n (take i due)) ((d.conn == n) || false) (sym (so.same n) ∙ there))
    by_number n false is = so.same n ∙ rw is (sym (or-false (is_due n (take i due))))

-- one of another
pub collected_next : (i next : ℕ) (due : List Due) (numbers : List ℕ) (d : Due) → i < length due → d ≡ get_or due i d → next ≤ d.conn → Collected due i next numbers
    → Collected due (i + 1) (d.conn + 1) (numbers ++ d.conn ∷ [])
collected_next i next due numbers d within here above so =
    let rest : AreOrdered (next - 1) (d ∷ drop (i + 1) due) = ordered_next i (next - 1) due d within here so.rest in
    let one : d.conn + 1 - 1 ≡ d.conn = omega arith in
    record {
      rising = rising_push next 0 d.conn numbers (omega arith) above so.rising;
      same = λ n. list_any-append (λ m. m == n) numbers (d.conn ∷ []) ∙ (ap (λ b. b || ((d.conn == n) || false)) (so.same n) ∙ sym (due_next i n due d within here));
      last = λ n is. list_any-append (λ m. m == n) numbers (d.conn ∷ []) ∙ or_right (is_in n numbers) ((d.conn == n) || false) (or_left (d.conn == n) false (grind (arith, is)));
      rest = subst (λ m. AreOrdered m (drop (i + 1) due)) (sym one) rest.1;
    }

pub collected_all : (i next : ℕ) (due : List Due) (numbers : List ℕ) → length due ≡ i → Collected due i next numbers → AreConnections due numbers
collected_all i next due numbers all so = record { above = next; rising = so.rising; same = λ n. so.same n ∙ ap (is_due n) (take_whole i due all) }
