-- The wheel once a change is made, and what the next tick wakes.
use Rattle.section_coupling.specs.declared.duo.TheConstants.{TIMERS}
use Rattle.std.proofs.Common.{◌≡◌, Ok, Err, IfOk, ℕ, zero, suc, ◌+◌, ◌==◌, ◌<◌, ◌≤◌, true, false, List, [], ◌∷◌, ◌++◌, length, get_or, set, option_to_list, Option, Some, None, inl, inr, refl, sym, subst, ap, ◌∙◌, arith}
use Rattle.std.specs.Prelude.{IfSome}
use Rattle.std.specs.declared.result.Result.{Result}
use Rattle.std.proofs.lemmas.Bool.{both_ways, cases_lt, eq-eqb, or_left, or_right, or_from}
use Rattle.std.proofs.lemmas.List.{get_or_past}
use Rattle.timer_wheel.specs.Timers.{Armed, timer_of, due_now}
use Rattle.connection_law.specs.TimerLaw.{IsQuiet}
use Rattle.section_coupling.specs.Duos.{DuoState, duo_at}
use Rattle.conn_journal.specs.declared.change.Next.{Next}
use Rattle.conn_journal.specs.Inner.Ticking.{TickedAt}
use Rattle.conn_lane.specs.Inner.Timed.{timer_left, SetsTimers, AreLeft, IsTimed}
use Rattle.conn_journal.specs.Inner.Waking.{is_in, AreRising, AreQuiet, WakesAll, is_next}
use Rattle.conn_lane.specs.Inner.Wheels.{ticks_of, is_due, AreConnections}
use Rattle.conn_journal.proofs.Ticked.{set_middle}
use Rattle.conn_lane.proofs.Wheels.{none_there}
use Rattle.conn_lane.proofs.Woken.{AreTimed, left_there, one_timed, idle_until_due}

-- A change.

-- of all that the wheel has to have, it has what is left
pub timed_left : (taken n : ℕ) (kept : List (Option DuoState)) (armed : List Armed) → IsTimed taken kept armed → AreLeft taken n (get_or kept n None) armed
timed_left taken n kept armed timed = λ timer bound. left_there (timer_left taken timer (get_or kept n None)) (ticks_of (timer_of n timer) armed) (timed.running n timer bound)

all_timed : (taken : ℕ) (kept : List (Option DuoState)) (armed : List Armed) → AreTimed (λ n. Unit {0}) taken kept armed → IsTimed taken kept armed
all_timed taken kept armed are = record { running = λ n timer bound. are.running n timer tt bound; others = are.others }

timed_all : (taken : ℕ) (kept : List (Option DuoState)) (armed : List Armed) → IsTimed taken kept armed → AreTimed (λ n. Unit {0}) taken kept armed
timed_all taken kept armed timed =
    record { running = λ n timer all bound. timed.running n timer bound; others = timed.others; left = λ n. timed_left taken n kept armed timed }

-- one connection is as it is next
pub heard_timed : (taken number : ℕ) (kept : List (Option DuoState)) (one : Option DuoState) (armed later : List Armed) → number < length kept → SetsTimers taken number one armed later
    → IsTimed taken kept armed → IsTimed taken (set kept number one) later
heard_timed taken number kept one armed later within sets timed =
    all_timed taken _ later
    (one_timed (λ n. Unit {0}) (λ n. Unit {0}) taken number kept one armed later within (λ n apart all. tt) sets (timed_all taken kept armed timed))

-- the next of those that a tick changes
pub next_timed : (taken : ℕ) (next : Next) (nexts : List Next) (kept : List (Option DuoState)) (armed later : List Armed) → next.number < length kept
    → SetsTimers taken next.number next.one armed later → AreTimed (λ n. is_next n (next ∷ nexts) ≡ false) taken kept armed
    → AreTimed (λ n. is_next n nexts ≡ false) taken (set kept next.number next.one) later
next_timed taken next nexts kept armed later within sets are =
    one_timed (λ n. is_next n (next ∷ nexts) ≡ false) (λ n. is_next n nexts ≡ false) taken next.number kept next.one armed later within
    (λ n apart e. or_from (next.number == n) (is_next n nexts) (other n apart) e) sets are
  where
    other : (n : ℕ) → (n ≡ next.number → ⊥) → (next.number == n) ≡ false
    other n apart = grind (arith, apart)

-- a place more, where nothing is kept yet
none_more : (kept : List (Option DuoState)) (n : ℕ) → get_or kept n None ≡ get_or (kept ++ None ∷ []) n None
none_more [] zero = refl
none_more [] (suc n) = refl
none_more (x ∷ kept) zero = refl
none_more (x ∷ kept) (suc n) = none_more kept n

last_within : (kept : List (Option DuoState)) → length kept < length (kept ++ None ∷ [])
last_within [] = omega arith
last_within (x ∷ kept) = omega (arith, last_within kept)

none_timed : (taken : ℕ) (kept : List (Option DuoState)) (armed : List Armed) → IsTimed taken kept armed → IsTimed taken (kept ++ None ∷ []) armed
none_timed taken kept armed timed =
    record {
      running = λ n timer bound. timed.running n timer bound ∙ ap (λ x. option_to_list (timer_left taken timer x)) (none_more kept n);
      others = timed.others;
    }

-- one more connection
pub opened_timed : (taken : ℕ) (kept : List (Option DuoState)) (one : DuoState) (armed later : List Armed) → SetsTimers taken (length kept) (Some one) armed later → IsTimed taken kept armed
    → IsTimed taken (kept ++ Some one ∷ []) later
opened_timed taken kept one armed later set_timers timed =
    subst (λ xs. IsTimed taken xs later) (set_middle kept [] (length kept) None (Some one) refl)
    (heard_timed taken (length kept) (kept ++ None ∷ []) (Some one) armed later (last_within kept) set_timers (none_timed taken kept armed timed))

-- before the first event
pub none_wakes : IsTimed 0 [] []
none_wakes = record { running = λ n timer bound. refl; others = λ n timer above. refl }

-- What the next tick wakes.

rising_within : (most count from : ℕ) (numbers : List ℕ) → ((n : ℕ) → is_in n numbers ≡ true → n < count) → AreRising most from numbers → AreRising count from numbers
rising_within most count from [] within rising = tt
rising_within most count from (m ∷ numbers) within rising = (
  rising.0,
  within m (or_left (m == m) (is_in m numbers) (eq-eqb m m refl)),
  rising_within most count (m + 1) numbers (λ n is. within n (or_right (m == n) (is_in n numbers) is)) rising.2,
)

-- what is due is kept
due_kept : (taken n : ℕ) (kept : List (Option DuoState)) (armed : List Armed) → IsTimed taken kept armed → is_due n (due_now armed) ≡ true → n < length kept
due_kept taken n kept armed timed is =
    elim (cases_lt n (length kept)) [ inl within ↦ within | inr past ↦ absurd (both_ways (is_due n (due_now armed)) (none_there n armed (none past)) is) ]
  where
    none : length kept ≤ n → (timer : ℕ) → ticks_of (timer_of n timer) armed ≡ []
    none past timer =
        elim (cases_lt timer TIMERS) [
          | inl bound ↦ timed.running n timer bound ∙ ap (λ x. option_to_list (timer_left taken timer x)) (get_or_past kept n None past)
          | inr above ↦ timed.others n timer above
        ]

pub wakes_all : (taken : ℕ) (kept : List (Option DuoState)) (armed : List Armed) (numbers : List ℕ) → AreQuiet taken kept → IsTimed taken kept armed → AreConnections (due_now armed) numbers
    → WakesAll taken kept 0 numbers
wakes_all taken kept armed numbers quiet timed are =
    record {
      rising = rising_within are.above (length kept) 0 numbers (λ n is. due_kept taken n kept armed timed (sym (are.same n) ∙ is)) are.rising;
      asleep = λ n from within free. by_one n (sym (are.same n) ∙ free) (get_or kept n None) refl (quiet n);
    }
  where
    by_one : (n : ℕ) → is_due n (due_now armed) ≡ false → (one : Option DuoState) → get_or kept n None ≡ one → IfSome one (λ d. IsQuiet d.ticks (duo_at taken d)) → TickedAt taken one None
    by_one n free None here quiet = refl
    by_one n free (Some d) here quiet =
        idle_until_due taken n d armed quiet free (λ timer bound. timed.running n timer bound ∙ ap (λ x. option_to_list (timer_left taken timer x)) here)

-- of a call's answer
pub if_ok : {A E : Type 0} {P Q : A → Type 0} (r : Result A E) → ((x : A) → P x → Q x) → IfOk r P → IfOk r Q
if_ok (Ok x) f p = f x p
if_ok (Err e) f p = tt
