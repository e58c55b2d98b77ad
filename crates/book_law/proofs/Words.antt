-- The words of a generated line, and what is read of each.
use Rattle.std.proofs.Common.{◌≡◌, ℕ, zero, suc, ◌*◌, ◌/◌, ◌%◌, ◌^◌, ◌≤◌, ◌<◌, ◌==◌, ◌&&◌, ◌||◌, nat_lt, nat_le, true, false, cond, List, [], ◌∷◌, length, slice_index, Some, None, Ok, refl, ap, ◌∙◌, arith}
use Rattle.std.proofs.lemmas.Bool.{leb-true, ltb-true}
use Rattle.std.proofs.lemmas.Bool.Decides.{nat_tests}
use Rattle.std.proofs.lemmas.Fmt.{digits_decimal, digits_value-decimal, decimal_nonempty, length-decimal-le}
use Rattle.std.proofs.lemmas.Str.Parse.{IsDigitsTest, IsNumeralModel, numerals_by_fold}
use Rattle.std.specs.Fmt.{decimal}
use Rattle.std.specs.Int.{IsInRange}
use Rattle.std.specs.Char.{is_ascii_digit}
use Rattle.std.specs.List.{AllByRecursion, list_all}
use Rattle.relay_base.specs.declared.limits.TheConstants.{OCTET_VALUES}
use Rattle.hex.specs.Hex.{encode_lower, encode_with, lower_digits, IsBytes}
use Rattle.hex.proofs.HexLemmas.{decode_of-encode_lower, length-encode_with}
use Rattle.relay_base.specs.Decimal.{is_number, digits_value, number_of}
use Rattle.relay_base.proofs.Numerals.{value_from, value_folds}
use Rattle.journal_text.specs.Print.{octets_text}
use Rattle.capture_form.specs.Text.{is_dash, hex_of}
use Rattle.capture_form.specs.Words.{below, octets_of}
use Rattle.book_law.proofs.Splitting.{IsDark, IsWord, none_and, is_less, all_passed}

-- ---- numbers

abbrev AreDigits : List ℕ → Type 0
AreDigits ds = AllByRecursion (λ c. IsInRange 48 57 c) ds

digits_test : IsDigitsTest AreDigits
digits_test = record { empty = tt; parts = λ c cs h. h; more = λ c cs p q. (p, q) }

numerals : IsNumeralModel AreDigits (value_from 0)
numerals = numerals_by_fold AreDigits digits_test value_from value_folds

all_pass : (ds : List ℕ) → AreDigits ds → list_all is_ascii_digit ds ≡ true
all_pass [] h = refl
all_pass (d ∷ ds) h = ap (λ t. t && list_all is_ascii_digit ds) (is_digit d h.0) ∙ all_pass ds h.1
  where
    is_digit : (d : ℕ) → IsInRange 48 57 d → is_ascii_digit d ≡ true
    is_digit d (least, most) = grind (arith, nat_tests)

short : (n : ℕ) → 0 < n → n ≤ 10 → (n == 0 || nat_lt 10 n) ≡ false
short n a b = grind (arith, nat_tests)

-- a number of at most nine digits
abbrev pub IsShort : ℕ → Type 0
IsShort n = n < 1000000000

pub number-decimal : (n : ℕ) → IsShort n → number_of (decimal n) ≡ Some n
unfolding number_of
number-decimal n h =
    let fits : n < 2 ^ 64 = omega (arith, h) in
    let digits : AreDigits (decimal n) = digits_decimal numerals n fits in
    let size : (length (decimal n) == 0 || nat_lt 10 (length (decimal n))) ≡ false =
    short (length (decimal n)) (decimal_nonempty n fits) (length-decimal-le 10 n (omega arith) (omega (arith, h)) fits) in
    let number : is_number (decimal n) ≡ true = ap (λ t. cond t false (list_all is_ascii_digit (decimal n))) size ∙ all_pass (decimal n) digits in
    ap (λ t. cond t (Some (digits_value (decimal n))) None) number ∙ ap Some (digits_value-decimal numerals n fits)

pub below-decimal : (limit n : ℕ) → IsShort n → n < limit → below limit (decimal n) ≡ Ok n
below-decimal limit n h lt = rw (number-decimal n h, is_less n limit lt) refl

digits_dark : (ds : List ℕ) → AreDigits ds → AllByRecursion IsDark ds
digits_dark [] h = tt
digits_dark (d ∷ ds) h = (omega (arith, h.0.0), digits_dark ds h.1)

pub decimal-word : (n : ℕ) → IsShort n → IsWord (decimal n)
decimal-word n h =
    let fits : n < 2 ^ 64 = omega (arith, h) in
    (decimal_nonempty n fits, digits_dark (decimal n) (digits_decimal numerals n fits))

pub decimal-short : (k n : ℕ) → 0 < k → n < 10 ^ k → IsShort n → length (decimal n) ≤ k
decimal-short k n some h short = length-decimal-le k n some h (omega (arith, short))

-- ---- octets

abbrev pub AreOctets : List ℕ → Type 0
AreOctets octets = AllByRecursion (λ b. b < OCTET_VALUES) octets

pub are_octets : (bs : List ℕ) → list_all (λ b. nat_lt b OCTET_VALUES) bs ≡ true → AreOctets bs
are_octets bs h = all_passed (λ b. nat_lt b OCTET_VALUES) (λ b. b < OCTET_VALUES) bs (λ b. ltb-true b OCTET_VALUES) h

are_bytes : (octets : List ℕ) → AreOctets octets → IsBytes octets
are_bytes [] h k = omega arith
are_bytes (b ∷ bs) h zero = h.0
are_bytes (b ∷ bs) h (suc k) = are_bytes bs h.1 k

dark_at : (ds : List ℕ) (k : ℕ) → AllByRecursion IsDark ds → k < length ds → IsDark (slice_index ds k)
dark_at [] k h lt = absurd (omega (arith, lt))
dark_at (d ∷ ds) zero h lt = h.0
dark_at (d ∷ ds) (suc k) h lt = dark_at ds k h.1 (omega (arith, lt))

dark_digits : AllByRecursion IsDark lower_digits
dark_digits = all_passed (nat_le 33) IsDark lower_digits (leb-true 33) refl

hex_dark : (octets : List ℕ) → AreOctets octets → AllByRecursion IsDark (encode_lower octets)
unfolding encode_with
hex_dark [] h = tt
hex_dark (b ∷ bs) h =
    (dark_at lower_digits (b / 16) dark_digits (omega (arith, h.0)), (dark_at lower_digits (b % 16) dark_digits (omega arith), hex_dark bs h.1))

pub octets-word : (b : ℕ) (octets : List ℕ) → AreOctets (b ∷ octets) → IsWord (octets_text (b ∷ octets))
octets-word b octets h = (omega (arith, length-encode_with lower_digits (b ∷ octets)), hex_dark (b ∷ octets) h)

no_dash : (b : ℕ) (octets : List ℕ) → is_dash (octets_text (b ∷ octets)) ≡ false
unfolding encode_with
no_dash b octets = none_and (slice_index lower_digits (b / 16) == 45)

pub octets-hex : (b : ℕ) (octets : List ℕ) → AreOctets (b ∷ octets) → octets_of (octets_text (b ∷ octets)) ≡ Ok (b ∷ octets)
unfolding hex_of
octets-hex b octets h = rw (no_dash b octets, decode_of-encode_lower (b ∷ octets) (are_bytes (b ∷ octets) h)) refl

pub octets-length : (b : ℕ) (octets : List ℕ) → length (octets_text (b ∷ octets)) ≡ 2 * length (b ∷ octets)
octets-length b octets = length-encode_with lower_digits (b ∷ octets)
