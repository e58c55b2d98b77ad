-- The list with the tick at which each connection wakes, and the scan for those that wake.
use Rattle.std.proofs.Common.{◌≡◌, ℕ, ◌+◌, ◌==◌, ◌<◌, ◌≤◌, ◌&&◌, ◌||◌, ◌⊎◌, ltb, true, false, List, [], ◌∷◌, ◌++◌, length, get_or, set, Option, Some, None, inl, inr, refl, sym, subst, ap, ◌∙◌, arith}
use Rattle.std.specs.Prelude.{IfSome}
use Rattle.std.proofs.Math.Bool.{or-false}
use Rattle.std.proofs.lemmas.Bool.{both_ways, cases_eq, cases_lt, and_cases, and_from, and_right, or_right, eq-eqb, lt-ltb}
use Rattle.std.proofs.lemmas.List.{get_or-set_same, get_or-set_other, get_or_past, get_or_push, get_or_append_left, length-set, length_push}
use Rattle.std.proofs.lemmas.List.Folds.{list_any-append}
use Rattle.section_coupling.specs.Duos.{DuoState, duo_at}
use Rattle.connection_law.specs.TimerLaw.{IsQuiet}
use Rattle.conn_journal.specs.Inner.Ticking.{TickedAt}
use Rattle.conn_journal.specs.Inner.Waking.{is_in, AreRising, AreQuiet, WakesAll}
use Rattle.lane_replays.specs.Inner.Soonest.{WakesFrom, AreListed, is_due}
use Rattle.conn_journal.proofs.Sleeping.{idle_when_late}

-- The list.

pub none_listed : AreListed [] []
none_listed = record { count = refl; each = λ number. tt }

-- one connection as it is next
pub set_listed : (number tick : ℕ) (kept : List (Option DuoState)) (one : Option DuoState) (soonest : List ℕ) → number < length kept → WakesFrom tick one → AreListed kept soonest
    → AreListed (set kept number one) (set soonest number tick)
set_listed number tick kept one soonest within from are =
    record {
      count = length-set soonest number tick ∙ (are.count ∙ sym (length-set kept number one));
      each = λ n. elim (cases_eq n number) [
        | inl same ↦ subst (λ m. WakesFrom (get_or (set soonest number tick) m 0) (get_or (set kept number one) m None)) (sym same)
            (subst (λ s. WakesFrom s (get_or (set kept number one) number None)) (sym (get_or-set_same soonest number tick 0 (omega (arith, within, are.count))))
            (subst (WakesFrom tick) (sym (get_or-set_same kept number one None within)) from))
        | inr apart ↦ subst (λ s. WakesFrom s (get_or (set kept number one) n None)) (sym (get_or-set_other soonest number n tick 0 apart))
            (subst (WakesFrom (get_or soonest n 0)) (sym (get_or-set_other kept number n one None apart)) (are.each n))
      ];
    }

-- one more connection
pub push_listed : (tick : ℕ) (kept : List (Option DuoState)) (one : Option DuoState) (soonest : List ℕ) → WakesFrom tick one → AreListed kept soonest
    → AreListed (kept ++ one ∷ []) (soonest ++ tick ∷ [])
push_listed tick kept one soonest from are =
    record {
      count = length_push soonest tick ∙ (ap (λ n. n + 1) are.count ∙ sym (length_push kept one));
      each = λ n. elim (cases_lt n (length kept)) [
        | inl within ↦ subst (λ s. WakesFrom s (get_or (kept ++ one ∷ []) n None)) (sym (get_or_append_left soonest (tick ∷ []) 0 n (omega (arith, within, are.count))))
            (subst (WakesFrom (get_or soonest n 0)) (sym (get_or_append_left kept (one ∷ []) None n within)) (are.each n))
        | inr past ↦ elim (cases_eq n (length kept)) [
          | inl same ↦ subst (λ s. WakesFrom s (get_or (kept ++ one ∷ []) n None)) (sym (get_or_push soonest tick 0 n (are.count ∙ sym same)))
              (subst (WakesFrom tick) (sym (get_or_push kept one None n (sym same))) from)
          | inr apart ↦ subst (WakesFrom (get_or (soonest ++ tick ∷ []) n 0))
              (sym (get_or_past (kept ++ one ∷ []) n None (omega (arith, past, apart, length_push kept one)))) tt
        ]
      ];
    }

-- The scan.

-- the connections below a number that wake
pub record AreScanned (taken : ℕ) (soonest : List ℕ) (count : ℕ) (numbers : List ℕ) : Type 0 where
  pub rising : AreRising count 0 numbers
  pub same : (n : ℕ) → is_in n numbers ≡ (ltb n count && is_due taken (get_or soonest n 0))

pub none_scanned : (taken : ℕ) (soonest : List ℕ) → AreScanned taken soonest 0 []
none_scanned taken soonest = record { rising = tt; same = λ n. sym (ap (λ b. b && is_due taken (get_or soonest n 0)) (none_below n)) }
  where
    none_below : (n : ℕ) → ltb n 0 ≡ false
    none_below n = grind arith

rising_more : (count from : ℕ) (numbers : List ℕ) → AreRising count from numbers → AreRising (count + 1) from numbers
rising_more count from [] rising = tt
rising_more count from (n ∷ numbers) rising = (rising.0, omega (arith, rising.1), rising_more count (n + 1) numbers rising.2)

rising_push : (count from : ℕ) (numbers : List ℕ) → from ≤ count → AreRising count from numbers → AreRising (count + 1) from (numbers ++ count ∷ [])
rising_push count from [] below rising = (below, omega arith, tt)
rising_push count from (n ∷ numbers) below rising = (rising.0, omega (arith, rising.1), rising_push count (n + 1) numbers (omega (arith, rising.1)) rising.2)

below_more : (n count : ℕ) → (n ≡ count → ⊥) → ltb n count ≡ ltb n (count + 1)
below_more n count apart = grind (arith, apart)

other : (n count : ℕ) → (n ≡ count → ⊥) → (count == n) ≡ false
other n count apart = grind (arith, apart)

-- the next one wakes
pub wakes_scanned : (taken count : ℕ) (soonest numbers : List ℕ) → is_due taken (get_or soonest count 0) ≡ true → AreScanned taken soonest count numbers
    → AreScanned taken soonest (count + 1) (numbers ++ count ∷ [])
wakes_scanned taken count soonest numbers due are =
    record {
      rising = rising_push count 0 numbers (omega arith) are.rising;
      same = λ n. list_any-append (λ m. m == n) numbers (count ∷ []) ∙ (ap (λ b. is_in n numbers || b) (or-false (count == n)) ∙ by_number n (cases_eq n count));
    }
  where
    by_number : (n : ℕ) → (n ≡ count) ⊎ (n ≡ count → ⊥) → (is_in n numbers || (count == n)) ≡ (ltb n (count + 1) && is_due taken (get_or soonest n 0))
    by_number n (inl same) =
        or_right (is_in n numbers) (count == n) (eq-eqb count n (sym same))
        ∙ sym (and_from (ltb n (count + 1)) (is_due taken (get_or soonest n 0)) (lt-ltb n (count + 1) (omega (arith, same))) (ap (λ m. is_due taken (get_or soonest m 0)) same ∙ due))
    by_number n (inr apart) =
        ap (λ b. is_in n numbers || b) (other n count apart)
        ∙ (or-false (is_in n numbers)
        ∙ (are.same n ∙ ap (λ b. b && is_due taken (get_or soonest n 0)) (below_more n count apart)))

-- the next one sleeps
pub sleeps_scanned : (taken count : ℕ) (soonest numbers : List ℕ) → is_due taken (get_or soonest count 0) ≡ false → AreScanned taken soonest count numbers
    → AreScanned taken soonest (count + 1) numbers
sleeps_scanned taken count soonest numbers due are =
    record { rising = rising_more count 0 numbers are.rising; same = λ n. are.same n ∙ by_number n (cases_eq n count) }
  where
    by_number : (n : ℕ) → (n ≡ count) ⊎ (n ≡ count → ⊥) → (ltb n count && is_due taken (get_or soonest n 0)) ≡ (ltb n (count + 1) && is_due taken (get_or soonest n 0))
    by_number n (inl same) =
        let late : is_due taken (get_or soonest n 0) ≡ false = ap (λ m. is_due taken (get_or soonest m 0)) same ∙ due in
        and_right (ltb n count) (is_due taken (get_or soonest n 0)) late ∙ sym (and_right (ltb n (count + 1)) (is_due taken (get_or soonest n 0)) late)
    by_number n (inr apart) = ap (λ b. b && is_due taken (get_or soonest n 0)) (below_more n count apart)

-- What the next tick wakes.

later : (taken tick : ℕ) → is_due taken tick ≡ false → taken + 1 < tick
later taken tick late = grind (arith, late)

pub wakes_all : (taken : ℕ) (kept : List (Option DuoState)) (soonest numbers : List ℕ) → AreQuiet taken kept → AreListed kept soonest → AreScanned taken soonest (length soonest) numbers
    → WakesAll taken kept 0 numbers
wakes_all taken kept soonest numbers quiet listed are =
    record {
      rising = subst (λ count. AreRising count 0 numbers) listed.count are.rising;
      asleep = λ n from within free. by_one (get_or soonest n 0) (get_or kept n None) (later taken (get_or soonest n 0) (late n within free)) (listed.each n) (quiet n);
    }
  where
    late : (n : ℕ) → n < length kept → is_in n numbers ≡ false → is_due taken (get_or soonest n 0) ≡ false
    late n within free =
        elim (and_cases (ltb n (length soonest)) (is_due taken (get_or soonest n 0)) (sym (are.same n) ∙ free)) [
          | inl past ↦ absurd (both_ways (ltb n (length soonest)) past (lt-ltb n (length soonest) (omega (arith, within, listed.count))))
          | inr sleeps ↦ sleeps
        ]

    by_one : (tick : ℕ) (one : Option DuoState) → taken + 1 < tick → WakesFrom tick one → IfSome one (λ d. IsQuiet d.ticks (duo_at taken d)) → TickedAt taken one None
    by_one tick None sleeps from quiet = refl
    by_one tick (Some d) sleeps from quiet = idle_when_late taken d quiet (λ timer bound. from timer bound taken sleeps)
