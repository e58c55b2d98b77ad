-- How many editions were published before a phase, by how many each phase published.
use Rattle.std.proofs.Common.{◌≡◌, ◌∙◌, ℕ, zero, suc, ◌+◌, ◌<◌, ◌≤◌, ◌==◌, ◌&&◌, nat_lt, nat_le, Bool, true, false, cond, List, [], ◌∷◌, length, get_or, take, sum, is_some, refl, sym, ap, ap₂, subst, arith, add-zero, add-one, set, drop, ◌++◌, Result, Ok, Err, IfOk, inl, inr, ◌⊎◌}
use Rattle.std.specs.List.{sum_by}
use Rattle.std.proofs.lemmas.Bool.{and_from, and_left, and_right, cases_eq, eq-eqb, ne_eqb}
use Rattle.std.proofs.lemmas.List.{get_or-set_other, get_or-set_same, get_or_append_left, get_or_push}
use Rattle.std.proofs.Math.Seq.{take-append_seam, take-length}
use Rattle.std.proofs.lemmas.Bool.Decides.{nat_tests}
use Rattle.std.proofs.lemmas.List.Sums.{sum_by-cons, sum_by_more, count_by-le-length}
use Rattle.plant_core.specs.declared.entry.ControlEntry.{ControlEntry}
use Rattle.right_book.specs.Editions.{editions_before, editions_upto}
use Rattle.control_replay.specs.Tables.{IsTable}
use Rattle.control_replay.specs.Inner.Counts.{published_in, editions_in, count_more}

-- ---- sums

sums_alike : {X : Type 0} (f g : X → ℕ) → ((x : X) → f x ≡ g x) → (xs : List X) → sum_by f xs ≡ sum_by g xs
sums_alike f g same [] = refl
sums_alike f g same (x ∷ xs) = sum_by-cons f x xs ∙ ap₂ (λ a b. a + b) (same x) (sums_alike f g same xs) ∙ sym (sum_by-cons g x xs)

sums_joined : {X : Type 0} (f g h : X → ℕ) → ((x : X) → f x ≡ g x + h x) → (xs : List X) → sum_by f xs ≡ sum_by g xs + sum_by h xs
sums_joined f g h joined [] = refl
sums_joined f g h joined (x ∷ xs) =
    let rest = sums_joined f g h joined xs in
    let first = joined x in
    omega (arith, rest, first, sum_by-cons f x xs, sum_by-cons g x xs, sum_by-cons h x xs)

-- one sum more stands behind the sums of the counts before each of so many
pub sums_pushed : (sums counts : List ℕ) (n x : ℕ) → length sums ≡ n + 1 → x ≡ sum (take (n + 1) counts) → ((at : ℕ) → at ≤ n → get_or sums at 0 ≡ sum (take at counts)) → (at : ℕ) → at ≤ n + 1
    → get_or (sums ++ x ∷ []) at 0 ≡ sum (take at counts)
sums_pushed sums counts n x size total each at few = elim (cases_eq at (n + 1)) [
  | inl same ↦ get_or_push sums x 0 at (size ∙ sym same) ∙ total ∙ ap (λ k. sum (take k counts)) (sym same)
  | inr apart ↦ get_or_append_left sums (x ∷ []) 0 at (omega (arith, size, few, apart)) ∙ each at (omega (arith, few, apart))
]

-- ---- editions

-- what a test adds to a count
abbrev pub one_if : Bool → ℕ
one_if test = cond test 1 0

before_zero : (some : Bool) (p : ℕ) → one_if (some && nat_lt p 0) ≡ 0
before_zero false p = refl
before_zero true p = grind (arith, nat_tests)

before_next : (some : Bool) (p phase : ℕ) → one_if (some && nat_lt p (phase + 1)) ≡ one_if (some && nat_lt p phase) + one_if (some && p == phase)
before_next false p phase = refl
before_next true p phase = grind (arith, nat_tests)

upto_next : (some : Bool) (p phase : ℕ) → one_if (some && nat_le p phase) ≡ one_if (some && nat_lt p (phase + 1))
upto_next false p phase = refl
upto_next true p phase = grind (arith, nat_tests)

nothing_before : (control : List ControlEntry) → editions_before 0 control ≡ 0
nothing_before [] = refl
nothing_before (e ∷ control) =
    sum_by-cons (λ (x : ControlEntry). cond (is_some x.published && nat_lt x.stamp.phase 0) 1 0) e control
    ∙ ap₂ (λ a b. a + b) (before_zero (is_some e.published) e.stamp.phase) (nothing_before control)

before_more : (phase : ℕ) (control : List ControlEntry) → editions_before (phase + 1) control ≡ editions_before phase control + editions_in phase control
before_more phase control =
    sums_joined
    (λ (e : ControlEntry). cond (is_some e.published && nat_lt e.stamp.phase (phase + 1)) 1 0)
    (λ (e : ControlEntry). cond (is_some e.published && nat_lt e.stamp.phase phase) 1 0)
    (λ (e : ControlEntry). cond (published_in phase e) 1 0)
    (λ e. before_next (is_some e.published) e.stamp.phase phase) control

-- those up to the end of a phase are those before the next
pub upto_is_before : (phase : ℕ) (control : List ControlEntry) → editions_upto phase control ≡ editions_before (phase + 1) control
upto_is_before phase control =
    sums_alike
    (λ (e : ControlEntry). cond (is_some e.published && nat_le e.stamp.phase phase) 1 0)
    (λ (e : ControlEntry). cond (is_some e.published && nat_lt e.stamp.phase (phase + 1)) 1 0)
    (λ e. upto_next (is_some e.published) e.stamp.phase phase) control

-- ---- counts

-- the count of each phase that is counted
abbrev pub AreCounts : List ControlEntry → List ℕ → Type 0
AreCounts control counts = (phase : ℕ) → phase < length counts → get_or counts phase 0 ≡ editions_in phase control

sum_next : (control : List ControlEntry) (counts : List ℕ) → AreCounts control counts → (phase : ℕ) → phase < length counts → sum (take phase counts) ≡ editions_before phase control
    → sum (take (phase + 1) counts) ≡ editions_before (phase + 1) control
sum_next control counts are phase lt before =
    sum_by_more (λ n. n) counts phase 0 lt ∙ ap₂ (λ a b. a + b) before (are phase lt) ∙ sym (before_more phase control)

pub sum_before : (control : List ControlEntry) (counts : List ℕ) → AreCounts control counts → (phase : ℕ) → phase ≤ length counts → sum (take phase counts) ≡ editions_before phase control
sum_before control counts are zero le = sym (nothing_before control)
sum_before control counts are (suc phase) le =
    subst (λ n. sum (take n counts) ≡ editions_before n control) (add-one phase)
    (sum_next control counts are phase (omega arith) (sum_before control counts are phase (omega arith)))

-- the count with an entry more
pub count_next : (phase : ℕ) (control : List ControlEntry) (i : ℕ) (e : ControlEntry) → i < length control
    → editions_in phase (take (i + 1) control) ≡ count_more (editions_in phase (take i control)) phase (get_or control i e)
count_next phase control i e lt = sum_by_more (λ (x : ControlEntry). cond (published_in phase x) 1 0) control i e lt

-- ---- an entry is counted

not_counted : (n phase : ℕ) (e : ControlEntry) → published_in phase e ≡ false → n ≡ count_more n phase e
not_counted n phase e out = sym (ap (λ b. n + cond b 1 0) out ∙ add-zero n)

pub unpublished : (n phase : ℕ) (e : ControlEntry) → is_some e.published ≡ false → n ≡ count_more n phase e
unpublished n phase e none = not_counted n phase e (and_left (is_some e.published) (e.stamp.phase == phase) none)

other_phase : (n phase : ℕ) (e : ControlEntry) → (e.stamp.phase ≡ phase → ⊥) → n ≡ count_more n phase e
other_phase n phase e other = not_counted n phase e (and_right (is_some e.published) (e.stamp.phase == phase) (ne_eqb e.stamp.phase phase other))

pub uncounted : (n most phase : ℕ) (e : ControlEntry) → most ≤ e.stamp.phase → phase < most → n ≡ count_more n phase e
uncounted n most phase e past lt = other_phase n phase e (λ same. omega (arith, same))

pub counted : (counts : List ℕ) (e : ControlEntry) → is_some e.published ≡ true → e.stamp.phase < length counts
    → (phase : ℕ) → phase < length counts → get_or (set counts e.stamp.phase (get_or counts e.stamp.phase 0 + 1)) phase 0 ≡ count_more (get_or counts phase 0) phase e
counted counts e some within phase lt = by (cases_eq e.stamp.phase phase)
  where
    new : List ℕ
    new = set counts e.stamp.phase (get_or counts e.stamp.phase 0 + 1)

    by : (e.stamp.phase ≡ phase) ⊎ (e.stamp.phase ≡ phase → ⊥) → get_or new phase 0 ≡ count_more (get_or counts phase 0) phase e
    by (inl same) =
        let yes : published_in phase e ≡ true = and_from (is_some e.published) (e.stamp.phase == phase) some (eq-eqb e.stamp.phase phase same) in
        ap (λ p. get_or new p 0) (sym same)
        ∙ get_or-set_same counts e.stamp.phase (get_or counts e.stamp.phase 0 + 1) 0 within
        ∙ ap (λ p. get_or counts p 0 + 1) same
        ∙ sym (ap (λ b. get_or counts phase 0 + cond b 1 0) yes)
    by (inr other) =
        get_or-set_other counts e.stamp.phase phase (get_or counts e.stamp.phase 0 + 1) 0 (λ same. other (sym same))
        ∙ other_phase (get_or counts phase 0) phase e other

-- what stands at the front of a list again, as many items as there were
pub taken_back : (n : ℕ) (new old : List ℕ) → length new ≡ n → take n (new ++ drop (length new) old) ≡ new
taken_back n new old same = ap (λ k. take k (new ++ drop (length new) old)) (sym same) ∙ take-append_seam new (drop (length new) old)

-- ---- the table

pub sum_few : (control : List ControlEntry) (counts : List ℕ) → AreCounts control counts → sum counts ≤ length control
sum_few control counts are =
    let most = count_by-le-length (λ (e : ControlEntry). is_some e.published && nat_lt e.stamp.phase (length counts)) control in
    let all : sum counts ≡ editions_before (length counts) control =
    ap (λ (l : List ℕ). sum l) (sym (take-length counts)) ∙ sum_before control counts are (length counts) (omega arith) in
    omega (arith, most, all)

-- the sums of the counts before each are the table
abbrev pub AreSums : List ℕ → List ℕ → Type 0
AreSums counts sums = (at : ℕ) → at ≤ length counts → get_or sums at 0 ≡ sum (take at counts)

sums_are : (phases : ℕ) (control : List ControlEntry) (counts sums : List ℕ) → length counts ≡ phases + 1 → AreCounts control counts → length sums ≡ length counts + 1 → AreSums counts sums → IsTable phases control sums
sums_are phases control counts sums size are more sums_at = record {
  size = omega (arith, size, more);
  each = λ phase le. let within : phase ≤ length counts = omega (arith, size, le) in sums_at phase within ∙ sum_before control counts are phase within;
}

pub table_is : {V E : Type 0} (items : V → List ℕ) (phases : ℕ) (control : List ControlEntry) (counts : List ℕ) (r : Result V E) → length counts ≡ phases + 1 → AreCounts control counts
    → IfOk r (λ sums. length (items sums) ≡ length counts + 1) → IfOk r (λ sums. AreSums counts (items sums)) → IfOk r (λ table. IsTable phases control (items table))
table_is items phases control counts (Ok sums) size are more sums_at = sums_are phases control counts (items sums) size are more sums_at
table_is items phases control counts (Err e) size are more sums_at = tt
