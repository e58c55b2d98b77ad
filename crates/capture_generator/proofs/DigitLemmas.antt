-- The digits of a count: those of the number one greater, and in which order they are written.
use Rattle.std.proofs.Common.{◌≡◌, ◌∙◌, ℕ, zero, suc, ◌+◌, ◌/◌, ◌%◌, ◌<◌, ◌==◌, Bool, true, false, cond, nat_lt, codes, List, [], ◌∷◌, ◌++◌, append_assoc, length, map, take, drop, get_or, refl, sym, ap, ap₂, subst, arith, lt-ltb}
use mathlib.Core.List.{reverse, reverse-cons}
use Rattle.std.proofs.Math.ListN.{set}
use Rattle.std.proofs.Math.Seq.{take-suc-set}
use Rattle.std.proofs.lemmas.List.{drop-set-lt, take-append-drop, at_drop_more}
use Rattle.std.specs.Fmt.{decimal}
use Rattle.std.specs.Int.Digits.{digits_of, AllBelowBase}
use Rattle.std.proofs.lemmas.Fmt.{decimal_digit}
use Rattle.std.proofs.lemmas.Bool.{ltb-true, ltb-false, ne_eqb}
use Rattle.std.proofs.lemmas.Int.Digits.{digits_of_step, all_below_base_digits_of}
use Rattle.capture_generator.specs.Counts.{whole}
use Rattle.capture_generator.specs.Inner.Digits.{number_of, AreDigits, one_greater}

-- ---- one more

-- digits of the number one greater
abbrev IsOneMore : List ℕ → List ℕ → Type 0
IsOneMore ds more = (number_of more ≡ number_of ds + 1) × AreDigits more

pub one-more : (ds : List ℕ) → AreDigits ds → IsOneMore ds (one_greater ds)
one-more [] h = (refl, (omega arith, omega arith, tt))
one-more (d ∷ ds) h = by (nat_lt d 9) refl (one-more ds h.2)
  where
    by : (b : Bool) → nat_lt d 9 ≡ b → IsOneMore ds (one_greater ds) → IsOneMore (d ∷ ds) (cond b ((d + 1) ∷ ds) (0 ∷ one_greater ds))
    by true e more = (omega arith, (omega (arith, ltb-true d 9 e), omega arith, h.2))
    by false e more =
        let nine : d ≡ 9 = omega (arith, h.0, ltb-false d 9 e) in
        (omega (arith, more.0, nine), (omega arith, omega (arith, more.0), more.1))

-- ---- one more, digit by digit

-- the digits so far, if one is carried to those that are left
abbrev pub carrying : List ℕ → ℕ → List ℕ
carrying ds i = take i ds ++ one_greater (drop i ds)

-- the digit that is reached, and those behind it
reached : (ds : List ℕ) (i d : ℕ) → i < length ds → d ≡ get_or ds i 0 → carrying ds i ≡ take i ds ++ one_greater (d ∷ drop (i + 1) ds)
reached ds i d lt is = at_drop_more (λ l. take i ds ++ one_greater l) ds i 0 lt ∙ ap (λ e. take i ds ++ one_greater (e ∷ drop (i + 1) ds)) (sym is)

-- another digit in its place
put : (ds : List ℕ) (i v : ℕ) → i < length ds → take (i + 1) (set ds i v) ≡ take i ds ++ v ∷ []
put ds i v lt =
    let one : i + 1 ≡ suc i = omega arith in
    ap (λ n. take n (set ds i v)) one ∙ take-suc-set ds i v lt

pub stops_at : (ds : List ℕ) (i d : ℕ) → i < length ds → d ≡ get_or ds i 0 → d < 9 → set ds i (d + 1) ≡ carrying ds i
stops_at ds i d lt is less =
    sym (take-append-drop (i + 1) (set ds i (d + 1)))
    ∙ ap₂ (λ l r. l ++ r) (put ds i (d + 1) lt) (drop-set-lt (i + 1) ds i (d + 1) (omega arith))
    ∙ append_assoc (take i ds) ((d + 1) ∷ []) (drop (i + 1) ds)
    ∙ sym (reached ds i d lt is ∙ ap (λ t. take i ds ++ cond t ((d + 1) ∷ drop (i + 1) ds) (0 ∷ one_greater (drop (i + 1) ds))) (lt-ltb d 9 less))

-- ---- their text

-- the digits in the order in which they are written
pub digits-reversed : (ds : List ℕ) → AreDigits ds → reverse ds ≡ digits_of 10 (number_of ds)
digits-reversed [] h = refl
digits-reversed (d ∷ ds) h =
    let n = number_of (d ∷ ds) in
    let tens : n / 10 ≡ number_of ds = omega (arith, h.0) in
    let ones : n % 10 ≡ d = omega (arith, h.0) in
    reverse-cons d ds ∙ ap (λ l. l ++ d ∷ []) (digits-reversed ds h.2)
    ∙ sym (digits_of_step 10 n (omega arith) h.1 ∙ (λ i. digits_of 10 (tens i) ++ ones i ∷ []))

pub whole-none : whole (number_of []) ≡ codes "0"
whole-none = refl

pub whole-some : (ds : List ℕ) → AreDigits ds → 0 < length ds → whole (number_of ds) ≡ map (λ digit. 48 + digit) (reverse ds)
whole-some [] h some = absurd (omega (arith, some))
whole-some (d ∷ ds) h some =
    let none : (number_of (d ∷ ds) == 0) ≡ false = ne_eqb (number_of (d ∷ ds)) 0 (λ e. omega (arith, h.1, e)) in
    ap (λ t. cond t (codes "0") (map (λ digit. 48 + digit) (digits_of 10 (number_of (d ∷ ds))))) none
    ∙ ap (map (λ digit. 48 + digit)) (sym (digits-reversed (d ∷ ds) h))

-- each is a digit
digit-at : (ds : List ℕ) (i d : ℕ) → AllBelowBase 10 ds → i < length ds → get_or ds i d < 10
digit-at [] i d h lt = absurd (omega (arith, lt))
digit-at (x ∷ ds) zero d h lt = h.0
digit-at (x ∷ ds) (suc i) d h lt = digit-at ds i d h.1 (omega (arith, lt))

pub written-digit : (ds : List ℕ) (i d : ℕ) → AreDigits ds → (i < length (reverse ds)) × (d ≡ get_or (reverse ds) i d) → decimal d ≡ (48 + d) ∷ []
written-digit ds i d h at =
    let each = subst (AllBelowBase 10) (sym (digits-reversed ds h)) (all_below_base_digits_of 10 (number_of ds) (omega arith)) in
    decimal_digit d (omega (arith, at.1, digit-at (reverse ds) i d each at.0))
