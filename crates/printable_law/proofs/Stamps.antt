-- The stamp that is read of the words of an entry.
use Rattle.std.proofs.Common.{◌≡◌, ◌∙◌, ℕ, ◌^◌, ◌≤◌, ◌<◌, ◌==◌, ◌||◌, nat_lt, true, false, cond, length, Some, None, option_and_then, refl, ap, arith}
use Rattle.std.proofs.lemmas.Bool.{lt-ltb}
use Rattle.std.proofs.lemmas.Bool.Decides.{nat_tests}
use Rattle.std.proofs.lemmas.Fmt.{digits_value-decimal, decimal_nonempty, length-decimal-le}
use Rattle.std.proofs.lemmas.Str.Parse.{IsNumeralModel, numerals_by_fold, tells_digits}
use Rattle.std.specs.Char.{is_ascii_digit}
use Rattle.std.specs.Fmt.{decimal}
use Rattle.std.specs.List.{list_all}
use Rattle.std.specs.Str.Parse.{AllDigits}
use Rattle.relay_base.specs.Decimal.{is_number, digits_value, number_of}
use Rattle.relay_base.proofs.Numerals.{value_from, value_folds}
use Rattle.journal_form.specs.Stamps.{number_below}
use Rattle.printable_law.specs.FormLaw.{StampsAreRead}
use Rattle.printable_law.proofs.Fields.{all_digits}

pub numerals : IsNumeralModel (AllDigits 10) (value_from 0)
numerals = numerals_by_fold (AllDigits 10) tells_digits value_from value_folds

short : (n : ℕ) → 0 < n → n ≤ 10 → (n == 0 || nat_lt 10 n) ≡ false
short n a b = grind (arith, nat_tests)

number_read : (n : ℕ) → n < 10 ^ 10 → number_of (decimal n) ≡ Some n
unfolding number_of
number_read n h =
    let fits : n < 2 ^ 64 = omega (arith, h) in
    let word = decimal n in
    let size : (length word == 0 || nat_lt 10 (length word)) ≡ false = short (length word) (decimal_nonempty n fits) (length-decimal-le 10 n (omega arith) h fits) in
    let number : is_number word ≡ true = ap (λ t. cond t false (list_all is_ascii_digit word)) size ∙ all_digits n (omega (arith, h)) in
    ap (λ t. cond t (Some (digits_value word)) None) number ∙ ap Some (digits_value-decimal numerals n fits)

below_read : (limit n : ℕ) → n < 10 ^ 10 → n < limit → number_below limit (decimal n) ≡ Some n
below_read limit n h lt =
    ap (λ o. option_and_then (λ n. cond (nat_lt n limit) (Some n) None) o) (number_read n h)
    ∙ ap (λ t. cond t (Some n) None) (lt-ltb n limit lt)

pub stamps_are_read : StampsAreRead
stamps_are_read stamp asked published is =
    rw (below_read 4294967296 stamp.phase (omega (arith, is.phase)) is.phase, below_read 256 stamp.link (omega (arith, is.link)) is.link, below_read 4294967296 stamp.line (omega (arith, is.line)) is.line) refl
