-- A prefix in the order of digits.
use Rattle.std.proofs.Common.{◌≡◌, ℕ, ◌≤◌, List, [], ◌∷◌, length, take, Bool, true, false, refl, sym, ap, ◌∙◌, arith, length-take}
use Rattle.std.specs.Prelude.{◌==◌, nat_eq}
use Rattle.std.specs.List.{starts_with, common_prefix_len}
use Rattle.std.specs.Cmp.Lexicographic.{slice_cmp}
use Rattle.std.specs.declared.cmp.Ordering.{Ordering}
use Rattle.std.specs.declared.cmp.Ordering.TheVariants.{Less, Equal, Greater}
use Rattle.std.specs.Ordering.{nat_cmp, ordering_then, is_eq, is_le}
use Rattle.std.proofs.lemmas.Bool.{eqb-true}
use Rattle.std.proofs.lemmas.List.{take-take}
use Rattle.std.proofs.lemmas.Cmp.{nat_cmp_total, tied_itself}
use Rattle.std.proofs.lemmas.Map.Keys.{le_from_is_le}
use lib.Pointwise.{pointwise}
use Rattle.gtt_table.proofs.KeyLemmas.{both}
use Rattle.gtt_table.proofs.KeptLemmas.{begins}
use Rattle.gtt_table.proofs.OrderLemmas.{same_number}

pub tied : (o : Ordering) → is_eq o ≡ true → o ≡ Equal
tied Less h = cc
tied Equal h = refl
tied Greater h = cc

tied_numbers : (a b : ℕ) → a ≡ b → nat_cmp a b ≡ Equal
tied_numbers a b e = ap (nat_cmp a) (sym e) ∙ tied_itself nat_cmp_total a

pub first_upto : (o p : Ordering) → is_le (ordering_then o p) ≡ true → is_le o ≡ true
first_upto Less p h = refl
first_upto Equal p h = refl
first_upto Greater p h = h

pub then_upto : (o p : Ordering) → o ≡ Equal → is_le (ordering_then o p) ≡ true → is_le p ≡ true
then_upto o p e h = rw e at h

-- a prefix of digits doesn't stand behind them
pub prefix_upto : (p digits : List ℕ) → starts_with nat_eq digits p ≡ true → is_le (slice_cmp nat_cmp p digits) ≡ true
prefix_upto [] [] h = refl
prefix_upto [] (d ∷ digits) h = refl
prefix_upto (a ∷ p) [] h = cc
prefix_upto (a ∷ p) (d ∷ digits) h =
    let parts = both (a == d) (starts_with nat_eq digits p) h in
    rw (tied (nat_cmp a d) (sym (same_number a d) ∙ parts.0)) (prefix_upto p digits parts.1)

-- what stands between a prefix of digits and them begins with it
pub between_shares : (p mid digits : List ℕ) → starts_with nat_eq digits p ≡ true → is_le (slice_cmp nat_cmp p mid) ≡ true → is_le (slice_cmp nat_cmp mid digits) ≡ true
    → length p ≤ common_prefix_len nat_eq mid digits
between_shares [] mid digits h low high = omega arith
between_shares (a ∷ p) mid [] h low high = cc
between_shares (a ∷ p) [] (d ∷ digits) h low high = cc
between_shares (a ∷ p) (m ∷ mid) (d ∷ digits) h low high =
    let parts = both (a == d) (starts_with nat_eq digits p) h in
    let up = le_from_is_le a m (first_upto (nat_cmp a m) (slice_cmp nat_cmp p mid) low) in
    let down = le_from_is_le m d (first_upto (nat_cmp m d) (slice_cmp nat_cmp mid digits) high) in
    let first : a ≡ m = omega (arith, eqb-true a d parts.0, up, down) in
    let last : m ≡ d = omega (arith, eqb-true a d parts.0, first) in
    let rest = between_shares p mid digits parts.1
    (then_upto (nat_cmp a m) (slice_cmp nat_cmp p mid) (tied_numbers a m first) low)
    (then_upto (nat_cmp m d) (slice_cmp nat_cmp mid digits) (tied_numbers m d last) high) in
    rw (same_number m d ∙ ap is_eq (tied_numbers m d last)) (omega (arith, rest))

-- what shares all of itself with digits is a prefix of them
pub whole_starts : (p digits : List ℕ) → common_prefix_len nat_eq p digits ≡ length p → starts_with nat_eq digits p ≡ true
whole_starts [] digits h = refl
whole_starts (a ∷ p) [] h = absurd (omega (arith, h))
whole_starts (a ∷ p) (d ∷ digits) h = by_digit (whole_starts p digits) (a == d) refl
  where
    by_digit : (common_prefix_len nat_eq p digits ≡ length p → starts_with nat_eq digits p ≡ true) → (b : Bool) → (a == d) ≡ b → starts_with nat_eq (d ∷ digits) (a ∷ p) ≡ true
    by_digit rest true e = (let more = rw e at h in rw e (rest (omega (arith, more))))
    by_digit rest false e = (let none = rw e at h in absurd (omega (arith, none)))

-- the prefixes of at most n digits are those of the first n
pub starts_cut : (p digits : List ℕ) (n : ℕ) → length p ≤ n → starts_with nat_eq digits p ≡ starts_with nat_eq (take n digits) p
starts_cut p digits n short = ap (pointwise nat_eq p) (sym (take-take (length p) n digits short))

-- and those of the first n have at most n
pub starts_short : (p digits : List ℕ) (n : ℕ) → starts_with nat_eq (take n digits) p ≡ true → length p ≤ n
starts_short p digits n h = omega (arith, ap length (begins (take n digits) p h), length-take (length p) (take n digits), length-take n digits)
