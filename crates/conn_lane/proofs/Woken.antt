-- The timers of a lane once a connection is as it is next, or a tick is taken.
use Rattle.section_coupling.specs.declared.duo.TheConstants.{TIMERS}
use Rattle.std.proofs.Common.{◌≡◌, ℕ, ◌+◌, ◌-◌, ◌/◌, ◌%◌, ◌==◌, ◌<◌, ◌≤◌, Bool, true, false, List, [], ◌∷◌, length, get_or, set, option_to_list, Option, Some, None, inl, inr, refl, sym, subst, ap, ◌∙◌, arith}
use Rattle.std.specs.Prelude.{option_map, IfSome}
use Rattle.std.specs.List.{list_any}
use Rattle.std.proofs.lemmas.List.{get_or-set_same, get_or-set_other}
use Rattle.std.proofs.lemmas.Bool.{both_ways, false_from_ne_true, cases_eq, or_parts}
use Rattle.timer_wheel.specs.declared.due.Due.{Due}
use Rattle.timer_wheel.specs.Timers.{Armed, timer_of, due_now, after_tick}
use Rattle.section_model.specs.declared.cell.Timer.{Timer}
use Rattle.section_model.specs.declared.cell.Timer.TheVariants.{Connect, Reset, Iar, Ias, Rel, Int, Repeat}
use Rattle.section_model.specs.Ends.{Connection}
use Rattle.connection_law.specs.TimerLaw.{IsQuiet}
use Rattle.section_coupling.specs.declared.side.Side.{Side}
use Rattle.section_coupling.specs.declared.side.Side.TheVariants as side
use Rattle.section_coupling.specs.Views.{left_at, end_at}
use Rattle.section_coupling.specs.Duos.{DuoState, duo_at, left_of_timer, timer_placed, ticks_left}
use Rattle.conn_journal.specs.declared.change.Next.{Next}
use Rattle.conn_journal.proofs.Sleeping.{idle_when_late}
use Rattle.conn_journal.specs.Inner.Views.{IsIdle}
use Rattle.conn_lane.specs.Inner.Timed.{ticks_in_wheel, timer_left, SetsTimers, IsLeft, AreLeft, IsTimed}
use Rattle.conn_journal.specs.Inner.Waking.{is_next, IsWoken, AllWoken}
use Rattle.conn_lane.specs.Inner.Wheels.{ticks_of, is_due}
use Rattle.conn_lane.proofs.Wheels.{ticks_after, ticked as wheel_ticked, none_due}

-- One connection as it is next.

-- the timers of all that have to have them
pub record AreTimed (P : ℕ → Type 0) (taken : ℕ) (kept : List (Option DuoState)) (armed : List Armed) : Type 0 where
  pub running : (n timer : ℕ) → P n → timer < TIMERS → ticks_of (timer_of n timer) armed ≡ option_to_list (timer_left taken timer (get_or kept n None))
  pub others : (n timer : ℕ) → TIMERS ≤ timer → ticks_of (timer_of n timer) armed ≡ []
  pub left : (n : ℕ) → AreLeft taken n (get_or kept n None) armed

pub left_there : (left : Option ℕ) (ticks : List ℕ) → ticks ≡ option_to_list left → IsLeft left ticks
left_there None ticks is = is
left_there (Some n) ticks is = λ more. is

pub one_timed : (P Q : ℕ → Type 0) (taken number : ℕ) (kept : List (Option DuoState)) (one : Option DuoState) (armed later : List Armed) → number < length kept
    → ((n : ℕ) → (n ≡ number → ⊥) → Q n → P n) → SetsTimers taken number one armed later → AreTimed P taken kept armed → AreTimed Q taken (set kept number one) later
one_timed P Q taken number kept one armed later within less sets are =
    record {
      running = λ n timer q bound. elim (cases_eq n number) [
        | inl same ↦ subst (λ m. IsRight m timer (get_or (set kept number one) m None)) (sym same)
            (subst (IsRight number timer) (sym (get_or-set_same kept number one None within)) (sets.own timer bound))
        | inr apart ↦ subst (IsRight n timer) (sym (get_or-set_other kept number n one None apart))
            (sets.others (timer_of n timer) (λ t below e. apart (ap (λ (d : Due). d.conn) e)) ∙ are.running n timer (less n apart q) bound)
      ];
      others = λ n timer above.
          sets.others (timer_of n timer) (λ t below e. omega (arith, above, below, ap (λ (d : Due). d.timer) e)) ∙ are.others n timer above;
      left = λ n timer bound. elim (cases_eq n number) [
        | inl same ↦ subst (λ m. Stays m timer (get_or (set kept number one) m None)) (sym same)
            (subst (Stays number timer) (sym (get_or-set_same kept number one None within)) (left_there (timer_left taken timer one) _ (sets.own timer bound)))
        | inr apart ↦ subst (Stays n timer) (sym (get_or-set_other kept number n one None apart))
            (subst (IsLeft (timer_left taken timer (get_or kept n None))) (sym (sets.others (timer_of n timer) (λ t below e. apart (ap (λ (d : Due). d.conn) e)))) (are.left n timer bound))
      ];
    }
  where
    IsRight : ℕ → ℕ → Option DuoState → Type 0
    IsRight n timer x = ticks_of (timer_of n timer) later ≡ option_to_list (timer_left taken timer x)

    Stays : ℕ → ℕ → Option DuoState → Type 0
    Stays n timer x = IsLeft (timer_left taken timer x) (ticks_of (timer_of n timer) later)

-- A tick.

left_less : (taken : ℕ) (deadline : Option ℕ) → left_at (taken + 1) deadline ≡ option_map (λ n. n - 1) (left_at taken deadline)
left_less taken None = refl
left_less taken (Some tick) = let e : tick - (taken + 1) ≡ tick - taken - 1 = omega arith in ap Some e

end_less : (timer : Timer) (taken : ℕ) (s : Side) → left_of_timer timer (end_at (taken + 1) s) ≡ option_map (λ n. n - 1) (left_of_timer timer (end_at taken s))
end_less timer taken (side.User o) = refl
end_less timer taken (side.Wire w) =
    elim timer as (λ t. left_of_timer t (end_at (taken + 1) (side.Wire w)) ≡ option_map (λ n. n - 1) (left_of_timer t (end_at taken (side.Wire w)))) [
      | Connect ↦ left_less taken w.timers.connect
      | Reset ↦ left_less taken w.timers.reset
      | Iar ↦ left_less taken w.timers.iar
      | Ias ↦ left_less taken w.timers.ias
      | Rel ↦ left_less taken w.timers.rel
      | Int ↦ left_less taken w.timers.int
      | Repeat ↦ left_less taken w.timers.repeat
    ]

later_left : (timer taken : ℕ) (d : DuoState) → ticks_left timer (duo_at (taken + 1) d) ≡ option_map (λ n. n - 1) (ticks_left timer (duo_at taken d))
later_left timer taken d = by_side (timer / 7 == 0) refl
  where
    by_side : (b : Bool) → (timer / 7 == 0) ≡ b → ticks_left timer (duo_at (taken + 1) d) ≡ option_map (λ n. n - 1) (ticks_left timer (duo_at taken d))
    by_side true is = rw is (end_less (timer_placed (timer % 7)) taken d.pair.this)
    by_side false is = rw is (end_less (timer_placed (timer % 7)) taken d.pair.that)

in_less : (taken left : ℕ) → (ticks_in_wheel taken left == 1) ≡ false → ticks_in_wheel taken left - 1 ≡ ticks_in_wheel (taken + 1) (left - 1)
in_less taken left is = grind (arith, is)

ticks_less : (taken : ℕ) (left : Option ℕ) → list_any (λ n. n == 1) (option_to_list (option_map (ticks_in_wheel taken) left)) ≡ false
    → ticks_after (option_to_list (option_map (ticks_in_wheel taken) left)) ≡ option_to_list (option_map (ticks_in_wheel (taken + 1)) (option_map (λ n. n - 1) left))
ticks_less taken None none = refl
ticks_less taken (Some left) none =
    let late : (ticks_in_wheel taken left == 1) ≡ false = (or_parts (ticks_in_wheel taken left == 1) false none).0 in
    rw late (ap (λ n. n ∷ []) (in_less taken left late))

-- after the tick a timer stands there with one tick less, unless it was due
left_less_one : (taken : ℕ) (left : Option ℕ) (ticks : List ℕ) → ticks ≡ ticks_after (option_to_list (option_map (ticks_in_wheel taken) left))
    → IsLeft (option_map (ticks_in_wheel (taken + 1)) (option_map (λ n. n - 1) left)) ticks
left_less_one taken None ticks is = is
left_less_one taken (Some left) ticks is = λ more.
    let late : (ticks_in_wheel taken left == 1) ≡ false = not_one left more in
    is ∙ rw late (ap (λ n. n ∷ []) (in_less taken left late))
  where
    not_one : (n : ℕ) → 2 ≤ ticks_in_wheel (taken + 1) (n - 1) → (ticks_in_wheel taken n == 1) ≡ false
    not_one n more = grind (arith, more)

-- those that the tick doesn't change have their timers yet
pub tick_timed : (taken : ℕ) (kept : List (Option DuoState)) (nexts : List Next) (armed : List Armed) → AllWoken (λ n. is_due n (due_now armed)) kept nexts → IsTimed taken kept armed
    → AreTimed (λ n. is_next n nexts ≡ false) (taken + 1) kept (after_tick armed)
tick_timed taken kept nexts armed woken timed =
    record {
      running = λ n timer free bound. by_one n timer free bound (get_or kept n None) refl;
      others = λ n timer above. wheel_ticked (timer_of n timer) armed ∙ ap ticks_after (timed.others n timer above);
      left = λ n timer bound. by_left n timer bound (get_or kept n None) refl;
    }
  where
    before : (n timer : ℕ) → timer < TIMERS → (one : Option DuoState) → get_or kept n None ≡ one → ticks_of (timer_of n timer) armed ≡ option_to_list (timer_left taken timer one)
    before n timer bound one here = timed.running n timer bound ∙ ap (λ x. option_to_list (timer_left taken timer x)) here

    by_one : (n timer : ℕ) → is_next n nexts ≡ false → timer < TIMERS → (one : Option DuoState) → get_or kept n None ≡ one
        → ticks_of (timer_of n timer) (after_tick armed) ≡ option_to_list (timer_left (taken + 1) timer one)
    by_one n timer free bound None here = wheel_ticked (timer_of n timer) armed ∙ ap ticks_after (before n timer bound None here)
    by_one n timer free bound (Some d) here =
        let idle : is_due n (due_now armed) ≡ false =
        false_from_ne_true (is_due n (due_now armed)) (λ e. both_ways (is_next n nexts) free (subst (λ x. IsWoken n x nexts) here (woken n e))) in
        let was = before n timer bound (Some d) here in
        wheel_ticked (timer_of n timer) armed
        ∙ (ap ticks_after was
        ∙ (ticks_less taken (ticks_left timer (duo_at taken d)) (ap (list_any (λ n. n == 1)) (sym was) ∙ none_due n timer armed idle)
        ∙ ap (λ x. option_to_list (option_map (ticks_in_wheel (taken + 1)) x)) (sym (later_left timer taken d))))

    by_left : (n timer : ℕ) → timer < TIMERS → (one : Option DuoState) → get_or kept n None ≡ one → IsLeft (timer_left (taken + 1) timer one) (ticks_of (timer_of n timer) (after_tick armed))
    by_left n timer bound None here = wheel_ticked (timer_of n timer) armed ∙ ap ticks_after (before n timer bound None here)
    by_left n timer bound (Some d) here =
        subst (λ x. IsLeft (option_map (ticks_in_wheel (taken + 1)) x) (ticks_of (timer_of n timer) (after_tick armed))) (sym (later_left timer taken d))
        (left_less_one taken (ticks_left timer (duo_at taken d)) (ticks_of (timer_of n timer) (after_tick armed))
        (wheel_ticked (timer_of n timer) armed ∙ ap ticks_after (before n timer bound (Some d) here)))

-- A connection of which no timer is due.

two_left : (taken : ℕ) (left : Option ℕ) → list_any (λ n. n == 1) (option_to_list (option_map (ticks_in_wheel taken) left)) ≡ false → IfSome left (λ n. 2 ≤ n)
two_left taken None none = tt
two_left taken (Some left) none = at_least left (or_parts (ticks_in_wheel taken left == 1) false none).0
  where
    at_least : (n : ℕ) → (ticks_in_wheel taken n == 1) ≡ false → 2 ≤ n
    at_least n late = grind (arith, late)

pub idle_until_due : (taken number : ℕ) (d : DuoState) (armed : List Armed) → IsQuiet d.ticks (duo_at taken d) → is_due number (due_now armed) ≡ false
    → ((timer : ℕ) → timer < TIMERS → ticks_of (timer_of number timer) armed ≡ option_to_list (timer_left taken timer (Some d))) → IsIdle taken d
idle_until_due taken number d armed quiet idle are =
    let c : Connection = duo_at taken d in
    idle_when_late taken d quiet (λ timer bound. two_left taken (ticks_left timer c) (ap (list_any (λ n. n == 1)) (sym (are timer bound)) ∙ none_due number timer armed idle))
