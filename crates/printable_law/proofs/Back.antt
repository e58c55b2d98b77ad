-- Words that may be numbers and octets are printed of some.
use Rattle.std.proofs.Common.{◌≡◌, ◌∙◌, ℕ, zero, suc, ◌+◌, ◌-◌, ◌*◌, ◌/◌, ◌%◌, ◌^◌, ◌≤◌, ◌<◌, ◌==◌, ◌&&◌, ◌||◌, nat_lt, nat_le, not, Bool, true, false, cond, List, [], ◌∷◌, codes, length, slice_index, refl, sym, ap, ap₂, arith}
use Rattle.std.proofs.lemmas.Bool.{leb-true, ltb-true}
use Rattle.std.proofs.lemmas.Bool.Decides.{nat_tests}
use Rattle.std.proofs.lemmas.Fmt.{decimal-digits_value}
use Rattle.std.proofs.lemmas.Str.{digit_value_digit}
use Rattle.std.specs.Char.{is_ascii_digit}
use Rattle.std.specs.Cmp.Lexicographic.{same_text}
use Rattle.std.specs.Fmt.{decimal}
use Rattle.std.specs.List.{AllByRecursion, list_all}
use Rattle.std.specs.Str.Parse.{AllDigits}
use Rattle.hex.specs.Hex.{encode_lower, encode_with, lower_digits}
use Rattle.capture_form.proofs.PhaseLemmas.{both-left, both-right}
use Rattle.relay_base.specs.Decimal.{digits_value}
use Rattle.journal_form.specs.Words.{same, has_leading_zero, is_number, is_lower_digit, is_octets}
use Rattle.printable_law.specs.FormLaw.{IsOctetsText, WordsArePrinted}
use Rattle.printable_law.proofs.Fields.{passes}
use Rattle.printable_law.proofs.Stamps.{numerals}

-- ---- numbers

digit_is : (c : ℕ) → is_ascii_digit c ≡ true → (48 ≤ c) × (c ≤ 57)
digit_is c h = (leb-true 48 c (both-left (nat_le 48 c) (nat_le c 57) h), leb-true c 57 (both-right (nat_le 48 c) (nat_le c 57) h))

are_digits : (word : List ℕ) → list_all is_ascii_digit word ≡ true → AllDigits 10 word
are_digits [] h = tt
are_digits (c ∷ cs) h =
    let range = digit_is c (both-left (is_ascii_digit c) (list_all is_ascii_digit cs) h) in
    (omega (arith, range.0, range.1, digit_value_digit c range), are_digits cs (both-right (is_ascii_digit c) (list_all is_ascii_digit cs) h))

no_zero : (lead all : Bool) → cond lead false all ≡ true → lead ≡ false
no_zero true all h = cc
no_zero false all h = refl

alone : (n c : ℕ) → 0 < n → (n == 0 || (nat_lt 1 n && c == 48)) ≡ false → c ≡ 48 → n ≡ 1
alone n c some h e = grind (arith, nat_tests, some, h, e)

number_printed : (word : List ℕ) → is_number word ≡ true → digits_value word < 2 ^ 64 → decimal (digits_value word) ≡ word
number_printed [] h fits = cc
number_printed (c ∷ cs) h fits =
    let word = c ∷ cs in
    let all : list_all is_ascii_digit word ≡ true = passes (length word == 0 || has_leading_zero word) (list_all is_ascii_digit word) h in
    let lead = no_zero (length word == 0 || has_leading_zero word) (list_all is_ascii_digit word) h in
    decimal-digits_value numerals word (are_digits word all) (omega arith) (λ e. alone (length word) c (omega arith) lead e) fits

-- ---- octets

all_below : (ℕ → Bool) → ℕ → Bool
all_below p zero = true
all_below p (suc n) = p n && all_below p n

below : (p : ℕ → Bool) (n k : ℕ) → all_below p n ≡ true → k < n → p k ≡ true
unfolding all_below
below p zero k h lt = absurd (omega (arith, lt))
below p (suc n) k h lt = of_test (nat_lt k n) refl (λ less. below p n k (both-right (p n) (all_below p n) h) less)
  where
    last : nat_lt k n ≡ false → k ≡ n
    last e = grind (arith, nat_tests, e, lt)

    of_test : (t : Bool) → nat_lt k n ≡ t → (k < n → p k ≡ true) → p k ≡ true
    of_test true e before = before (ltb-true k n e)
    of_test false e before = ap p (last e) ∙ both-left (p n) (all_below p n) h

is_same : (a b : ℕ) → (a == b) ≡ true → a ≡ b
is_same a b h = grind (arith, nat_tests, h)

digit_row : (k : ℕ) → k < 10 → slice_index lower_digits k ≡ 48 + k
unfolding all_below
digit_row k h = is_same (slice_index lower_digits k) (48 + k) (below (λ k. slice_index lower_digits k == 48 + k) 10 k refl h)

letter_row : (k : ℕ) → k < 6 → slice_index lower_digits (10 + k) ≡ 97 + k
unfolding all_below
letter_row k h = is_same (slice_index lower_digits (10 + k)) (97 + k) (below (λ k. slice_index lower_digits (10 + k) == 97 + k) 6 k refl h)

record HasValue (c : ℕ) : Type 0 where
  value : ℕ
  low : value < 16
  is : slice_index lower_digits value ≡ c

value_of : (c : ℕ) → is_lower_digit c ≡ true → HasValue c
value_of c h = of_test (is_ascii_digit c) refl h
  where
    of_test : (t : Bool) → is_ascii_digit c ≡ t → (t || (nat_le 97 c && nat_le c 102)) ≡ true → HasValue c
    of_test true e k =
        let range = digit_is c e in
        let back : 48 + (c - 48) ≡ c = omega (arith, range.0) in
        record { value = c - 48; low = omega (arith, range.0, range.1); is = digit_row (c - 48) (omega (arith, range.0, range.1)) ∙ back }
    of_test false e k =
        let least = leb-true 97 c (both-left (nat_le 97 c) (nat_le c 102) k) in
        let most = leb-true c 102 (both-right (nat_le 97 c) (nat_le c 102) k) in
        let back : 97 + (c - 97) ≡ c = omega (arith, least) in
        record { value = 10 + (c - 97); low = omega (arith, least, most); is = letter_row (c - 97) (omega (arith, least, most)) ∙ back }

record Encoded (word : List ℕ) : Type 0 where
  bytes : List ℕ
  octets : AllByRecursion (λ b. b < 256) bytes
  is : encode_lower bytes ≡ word
  size : length word ≡ 2 * length bytes

pairs : (n : ℕ) (word : List ℕ) → length word ≡ 2 * n → list_all is_lower_digit word ≡ true → Encoded word
unfolding encode_with
pairs zero [] len h = record { bytes = []; octets = tt; is = refl; size = refl }
pairs zero (a ∷ word) len h = absurd (omega (arith, len))
pairs (suc n) [] len h = absurd (omega (arith, len))
pairs (suc n) (a ∷ []) len h = absurd (omega (arith, len))
pairs (suc n) (a ∷ b ∷ rest) len h =
    let behind = both-right (is_lower_digit a) (list_all is_lower_digit (b ∷ rest)) h in
    let high = value_of a (both-left (is_lower_digit a) (list_all is_lower_digit (b ∷ rest)) h) in
    let low = value_of b (both-left (is_lower_digit b) (list_all is_lower_digit rest) behind) in
    let more = pairs n rest (omega (arith, len)) (both-right (is_lower_digit b) (list_all is_lower_digit rest) behind) in
    let byte = 16 * high.value + low.value in
    let front : byte / 16 ≡ high.value = omega (arith, low.low) in
    let back : byte % 16 ≡ low.value = omega (arith, low.low) in
    record {
      bytes = byte ∷ more.bytes;
      octets = (omega (arith, high.low, low.low), more.octets);
      is =
          ap₂ (λ x y. slice_index lower_digits x ∷ slice_index lower_digits y ∷ encode_lower more.bytes) front back
          ∙ ap₂ (λ x y. x ∷ y ∷ encode_lower more.bytes) high.is low.is ∙ ap (λ l. a ∷ b ∷ l) more.is;
      size = omega (arith, more.size);
    }

some_octets : (word : List ℕ) → 0 < length word → Encoded word → IsOctetsText word
some_octets word some e = of_bytes e.bytes e.octets e.is e.size
  where
    of_bytes : (bytes : List ℕ) → AllByRecursion (λ b. b < 256) bytes → encode_lower bytes ≡ word → length word ≡ 2 * length bytes → IsOctetsText word
    of_bytes [] h is size = absurd (omega (arith, some, size))
    of_bytes (b ∷ bs) h is size = record { bytes = b ∷ bs; octets = h; is = is }

half : (n : ℕ) → (n == 0 || not (n % 2 == 0)) ≡ false → n ≡ 2 * (n / 2)
half n h = grind (arith, nat_tests, h)

more_than_none : (n : ℕ) → (n == 0 || not (n % 2 == 0)) ≡ false → 0 < n
more_than_none n h = grind (arith, nat_tests, h)

octets_printed : (word : List ℕ) → is_octets word ≡ true → IsOctetsText word
octets_printed word h = of_test (same word (codes "-")) refl h
  where
    of_test : (t : Bool) → same word (codes "-") ≡ t → cond t true (cond (length word == 0 || not (length word % 2 == 0)) false (list_all is_lower_digit word)) ≡ true → IsOctetsText word
    of_test true e k = record { bytes = []; octets = tt; is = sym (same_text word (codes "-") (sym e)) }
    of_test false e k =
        let size = length word == 0 || not (length word % 2 == 0) in
        let even = no_zero size (list_all is_lower_digit word) k in
        some_octets word (more_than_none (length word) even)
        (pairs (length word / 2) word (half (length word) even) (passes size (list_all is_lower_digit word) k))

pub words_are_printed : WordsArePrinted
words_are_printed = record { numbers = number_printed; octets = octets_printed }
