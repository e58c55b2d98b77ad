-- The words that write numbers and octets.
use Rattle.std.proofs.Common.{◌≡◌, ◌∙◌, ℕ, zero, suc, ◌+◌, ◌*◌, ◌/◌, ◌%◌, ◌^◌, ◌≤◌, ◌<◌, ◌==◌, ◌&&◌, ◌||◌, nat_lt, not, Bool, true, false, cond, List, [], ◌∷◌, ◌++◌, codes, length, slice_index, refl, ap, arith}
use Rattle.std.proofs.lemmas.Bool.Decides.{nat_tests}
use Rattle.std.proofs.lemmas.Fmt.{decimal_by_steps_wide}
use Rattle.std.specs.Char.{is_ascii_digit}
use Rattle.std.specs.Fmt.{decimal, digits, digits_onto, digit_glyph}
use Rattle.std.specs.List.{AllByRecursion, list_all}
use Rattle.hex.specs.Hex.{encode_lower, encode_with, lower_digits}
use Rattle.hex.proofs.HexLemmas.{length-encode_with}
use Rattle.capture_form.proofs.PhaseLemmas.{both-left, both-right}
use Rattle.journal_text.specs.Print.{octets_text}
use Rattle.journal_form.specs.Words.{same, has_leading_zero, is_number, is_lower_digit, is_octets}
use Rattle.printable_law.proofs.FormWords.{is_without, passes_too, all_both}

-- ---- numbers

either : (p : List ℕ → Bool) (t : Bool) (xs ys : List ℕ) → p xs ≡ true → p ys ≡ true → p (cond t xs ys) ≡ true
either p true xs ys h k = h
either p false xs ys h k = k

glyph : (octet d : ℕ) → octet < 48 → not (digit_glyph false d == octet) ≡ true
glyph octet d h = of_test (nat_lt d 10)
  where
    of_test : (t : Bool) → not (cond t (48 + d) (87 + d) == octet) ≡ true
    of_test true = grind (arith, nat_tests, h)
    of_test false = grind (arith, nat_tests, h)

digits_without : (octet : ℕ) → octet < 48 → (k n : ℕ) (behind : List ℕ) → is_without octet behind ≡ true → is_without octet (digits_onto k 10 false n behind) ≡ true
digits_without octet low zero n behind h = h
digits_without octet low (suc k) n behind h =
    let d = digit_glyph false (n % 10) in
    let more : is_without octet (d ∷ behind) ≡ true = ap (λ t. t && is_without octet behind) (glyph octet (n % 10) low) ∙ h in
    either (is_without octet) (n / 10 == 0) (d ∷ behind) (digits_onto k 10 false (n / 10) (d ∷ behind)) more (digits_without octet low k (n / 10) (d ∷ behind) more)

-- no octet below the digits stands in a number
pub number_without : (octet n : ℕ) → octet < 48 → is_without octet (decimal n) ≡ true
unfolding digits
number_without octet n low = digits_without octet low 64 n [] refl

and_false : (t : Bool) → (t && false) ≡ false
and_false true = refl
and_false false = refl

digit : (d : ℕ) → d < 10 → is_ascii_digit (48 + d) ≡ true
digit d h = grind (arith, nat_tests, h)

pub passes : (lead all : Bool) → cond lead false all ≡ true → all ≡ true
passes true all h = cc
passes false all h = h

one_digit : (c : ℕ) → is_ascii_digit c ≡ true → is_number (c ∷ []) ≡ true
one_digit c h = ap (λ t. t && true) h

no_lead : (n d : ℕ) → 0 < n → 49 ≤ d → (n == 0 || (nat_lt 1 n && d == 48)) ≡ false
no_lead n d h k = grind (arith, nat_tests, h, k)

-- a number whose first digit, where it isn't 0, is none
record IsWhole (m : ℕ) (ds : List ℕ) : Type 0 where
  number : is_number ds ≡ true
  first : 1 ≤ m → 49 ≤ slice_index ds 0

first_digit : (m : ℕ) → m < 10 → IsWhole m ((48 + m) ∷ [])
first_digit m h = record { number = one_digit (48 + m) (digit m h); first = λ a. omega (arith, a) }

next_digit : (m : ℕ) (ds : List ℕ) → 10 ≤ m → IsWhole (m / 10) ds → IsWhole m (ds ++ ((48 + m % 10) ∷ []))
next_digit m [] h w = absurd (omega (arith, h, w.first (omega (arith, h))))
next_digit m (d ∷ ds) h w =
    let c = 48 + m % 10 in
    let word = d ∷ (ds ++ (c ∷ [])) in
    let high : 49 ≤ d = w.first (omega (arith, h)) in
    let old : list_all is_ascii_digit (d ∷ ds) ≡ true = passes (length (d ∷ ds) == 0 || has_leading_zero (d ∷ ds)) (list_all is_ascii_digit (d ∷ ds)) w.number in
    let last : list_all is_ascii_digit (c ∷ []) ≡ true = ap (λ t. t && true) (digit (m % 10) (omega arith)) in
    let all : list_all is_ascii_digit word ≡ true = all_both is_ascii_digit (d ∷ ds) (c ∷ []) old last in
    record {
      number = ap (λ t. cond t false (list_all is_ascii_digit word)) (no_lead (length word) d (omega arith) high) ∙ all;
      first = λ a. high;
    }

pub number_is : (n : ℕ) → n < 10 ^ 64 → is_number (decimal n) ≡ true
number_is n h = (decimal_by_steps_wide IsWhole first_digit next_digit n h).number

pub all_digits : (n : ℕ) → n < 10 ^ 64 → list_all is_ascii_digit (decimal n) ≡ true
all_digits n h = passes (length (decimal n) == 0 || has_leading_zero (decimal n)) (list_all is_ascii_digit (decimal n)) (number_is n h)

-- ---- octets

at : (p : ℕ → Bool) (table : List ℕ) (k : ℕ) → list_all p table ≡ true → k < length table → p (slice_index table k) ≡ true
at p [] k h lt = absurd (omega (arith, lt))
at p (c ∷ table) zero h lt = both-left (p c) (list_all p table) h
at p (c ∷ table) (suc k) h lt = at p table k (both-right (p c) (list_all p table) h) (omega (arith, lt))

lower_at : (k : ℕ) → k < 16 → is_lower_digit (slice_index lower_digits k) ≡ true
lower_at k h = at is_lower_digit lower_digits k refl h

abbrev Bytes : List ℕ → Type 0
Bytes bs = AllByRecursion (λ b. b < 256) bs

hex : (bs : List ℕ) → Bytes bs → list_all is_lower_digit (encode_lower bs) ≡ true
unfolding encode_with
hex [] h = refl
hex (b ∷ bs) h =
    let high = slice_index lower_digits (b / 16) in
    let low = slice_index lower_digits (b % 16) in
    let rest = list_all is_lower_digit (encode_lower bs) in
    ap (λ t. t && (is_lower_digit low && rest)) (lower_at (b / 16) (omega (arith, h.0)))
    ∙ ap (λ t. t && rest) (lower_at (b % 16) (omega arith))
    ∙ hex bs h.1

even : (n : ℕ) → (2 * suc n == 0 || not ((2 * suc n) % 2 == 0)) ≡ false
even n = grind (arith, nat_tests)

or_if : (t e : Bool) → e ≡ true → cond t true e ≡ true
or_if true e h = refl
or_if false e h = h

octets_are : (word : List ℕ) (n : ℕ) → length word ≡ 2 * suc n → list_all is_lower_digit word ≡ true → is_octets word ≡ true
octets_are word n len all =
    or_if (same word (codes "-")) (cond (length word == 0 || not (length word % 2 == 0)) false (list_all is_lower_digit word))
    (ap (λ l. cond (l == 0 || not (l % 2 == 0)) false (list_all is_lower_digit word)) len ∙ ap (λ t. cond t false (list_all is_lower_digit word)) (even n) ∙ all)

pub octets_is : (bs : List ℕ) → Bytes bs → is_octets (octets_text bs) ≡ true
octets_is [] h = refl
octets_is (b ∷ bs) h = octets_are (encode_lower (b ∷ bs)) (length bs) (length-encode_with lower_digits (b ∷ bs)) (hex (b ∷ bs) h)

lower_without : (octet : ℕ) → octet < 45 → (b : ℕ) → is_lower_digit b ≡ true → not (b == octet) ≡ true
lower_without octet low b h = grind (arith, nat_tests, low, h)

pub octets_without : (octet : ℕ) (bs : List ℕ) → octet < 45 → Bytes bs → is_without octet (octets_text bs) ≡ true
octets_without octet [] low h = grind (arith, nat_tests, low)
octets_without octet (b ∷ bs) low h =
    passes_too is_lower_digit (λ b. not (b == octet)) (lower_without octet low) (encode_lower (b ∷ bs)) (hex (b ∷ bs) h)
