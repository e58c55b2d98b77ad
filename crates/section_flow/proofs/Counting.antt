-- The count that a P(R) stands for.
use Rattle.std.proofs.Common.{◌≡◌, ℕ, zero, suc, ◌+◌, ◌-◌, ◌%◌, ◌≤◌, ◌<◌, ◌==◌, cond, Bool, true, false, IfSome, refl, ap, ◌∙◌, arith, eqb-true}
use Rattle.std.proofs.lemmas.Bool.{eqb-false}
use Rattle.std.specs.Prelude.{Option, Some, None, find, unwrap_or}
use Rattle.std.specs.List.{range_with_len}
use Rattle.section_flow.specs.declared.limits.TheConstants.{SEQUENCE_NUMBERS}
use Rattle.section_flow.specs.Windows.{count_of}

abbrev IsAlike : ℕ → ℕ → Bool
IsAlike pr count = count % SEQUENCE_NUMBERS == pr % SEQUENCE_NUMBERS

-- among the numbers from one on, the one that is so far ahead, and none that is further
found : (pr a n ahead : ℕ) → (a + ahead) % SEQUENCE_NUMBERS ≡ pr % SEQUENCE_NUMBERS → ahead < SEQUENCE_NUMBERS → ahead < n → find (IsAlike pr) (range_with_len a n) ≡ Some (a + ahead)
found pr a zero ahead e few within = absurd (omega (arith, within))
found pr a (suc n) ahead e few within = by_test (IsAlike pr a) refl (λ next f g h. found pr (a + 1) n next f g h)
  where
    later : Option ℕ
    later = find (IsAlike pr) (range_with_len (a + 1) n)

    by_test : (test : Bool) → IsAlike pr a ≡ test
        → ((next : ℕ) → ((a + 1) + next) % SEQUENCE_NUMBERS ≡ pr % SEQUENCE_NUMBERS → next < SEQUENCE_NUMBERS → next < n → later ≡ Some ((a + 1) + next))
        → cond test (Some a) later ≡ Some (a + ahead)
    by_test true is more =
        let alike : a % SEQUENCE_NUMBERS ≡ pr % SEQUENCE_NUMBERS = eqb-true (a % SEQUENCE_NUMBERS) (pr % SEQUENCE_NUMBERS) is in
        let same : a ≡ a + ahead = omega (arith, alike, e, few) in
        ap Some same
    by_test false is more =
        let other : a % SEQUENCE_NUMBERS ≡ pr % SEQUENCE_NUMBERS → ⊥ = eqb-false (a % SEQUENCE_NUMBERS) (pr % SEQUENCE_NUMBERS) is in
        let some : 1 ≤ ahead = omega (arith, other, e) in
        let next : (a + 1) + (ahead - 1) ≡ a + ahead = omega (arith, some) in
        more (ahead - 1) (ap (λ (c : ℕ). c % SEQUENCE_NUMBERS) next ∙ e) (omega (arith, few)) (omega (arith, within, some)) ∙ ap Some next

none_found : (pr a n ahead : ℕ) → (a + ahead) % SEQUENCE_NUMBERS ≡ pr % SEQUENCE_NUMBERS → ahead < SEQUENCE_NUMBERS → n ≤ ahead → find (IsAlike pr) (range_with_len a n) ≡ None
none_found pr a zero ahead e few beyond = refl
none_found pr a (suc n) ahead e few beyond = by_test (IsAlike pr a) refl (λ next f g h. none_found pr (a + 1) n next f g h)
  where
    later : Option ℕ
    later = find (IsAlike pr) (range_with_len (a + 1) n)

    by_test : (test : Bool) → IsAlike pr a ≡ test
        → ((next : ℕ) → ((a + 1) + next) % SEQUENCE_NUMBERS ≡ pr % SEQUENCE_NUMBERS → next < SEQUENCE_NUMBERS → n ≤ next → later ≡ None)
        → cond test (Some a) later ≡ None
    by_test true is more =
        let alike : a % SEQUENCE_NUMBERS ≡ pr % SEQUENCE_NUMBERS = eqb-true (a % SEQUENCE_NUMBERS) (pr % SEQUENCE_NUMBERS) is in
        absurd (omega (arith, alike, e, few, beyond))
    by_test false is more =
        let next : (a + 1) + (ahead - 1) ≡ a + ahead = omega (arith, beyond) in
        more (ahead - 1) (ap (λ (c : ℕ). c % SEQUENCE_NUMBERS) next ∙ e) (omega (arith, few)) (omega (arith, beyond))

-- by how far it is ahead of the last one received
pub count-ahead : (pr acked sent ahead : ℕ) → (acked + ahead) % SEQUENCE_NUMBERS ≡ pr % SEQUENCE_NUMBERS → ahead < SEQUENCE_NUMBERS → ahead ≤ sent - acked → count_of pr acked sent ≡ Some (acked + ahead)
count-ahead pr acked sent ahead e few within = found pr acked ((sent - acked) + 1) ahead e few (omega (arith, within))

pub count-beyond : (pr acked sent ahead : ℕ) → (acked + ahead) % SEQUENCE_NUMBERS ≡ pr % SEQUENCE_NUMBERS → ahead < SEQUENCE_NUMBERS → sent - acked < ahead → count_of pr acked sent ≡ None
count-beyond pr acked sent ahead e few beyond = none_found pr acked ((sent - acked) + 1) ahead e few (omega (arith, beyond))

-- it lies between the last one received and the units sent
between : (pr a n : ℕ) → IfSome (find (IsAlike pr) (range_with_len a n)) (λ count. (a ≤ count) × (count < a + n))
between pr a zero = tt
between pr a (suc n) = by_test (IsAlike pr a) (find (IsAlike pr) (range_with_len (a + 1) n)) (between pr (a + 1) n)
  where
    by_test : (test : Bool) (later : Option ℕ) → IfSome later (λ count. (a + 1 ≤ count) × (count < (a + 1) + n))
        → IfSome (cond test (Some a) later) (λ count. (a ≤ count) × (count < a + suc n))
    by_test true later h = (omega arith, omega arith)
    by_test false None h = tt
    by_test false (Some count) h = (omega (arith, h.0), omega (arith, h.1))

pub count-between : (pr acked sent : ℕ) → acked ≤ sent → (acked ≤ unwrap_or (count_of pr acked sent) acked) × (unwrap_or (count_of pr acked sent) acked ≤ sent)
count-between pr acked sent order = by_count (count_of pr acked sent) (between pr acked ((sent - acked) + 1))
  where
    by_count : (count : Option ℕ) → IfSome count (λ c. (acked ≤ c) × (c < acked + ((sent - acked) + 1)))
        → (acked ≤ unwrap_or count acked) × (unwrap_or count acked ≤ sent)
    by_count None h = (omega arith, order)
    by_count (Some c) h = (h.0, omega (arith, h.1, order))
