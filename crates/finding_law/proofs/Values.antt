-- The number that the digits of a number write.
use Rattle.std.proofs.Common.{◌≡◌, ◌∙◌, ℕ, ◌+◌, ◌-◌, ◌*◌, ◌/◌, ◌%◌, ◌^◌, ◌≤◌, ◌<◌, List, [], ◌∷◌, ◌++◌, refl, ap, arith}
use Rattle.std.proofs.lemmas.Fmt.{decimal_by_steps_wide}
use Rattle.std.specs.Fmt.{decimal}
use Rattle.relay_base.specs.Decimal.{digits_value}
use Rattle.relay_base.proofs.Numerals.{value_from}

last_digit : (n : ℕ) (ds : List ℕ) (c : ℕ) → value_from n (ds ++ c ∷ []) ≡ 10 * value_from n ds + (c - 48)
last_digit n [] c = refl
last_digit n (d ∷ ds) c = last_digit (10 * n + (d - 48)) ds c

IsValueOf : ℕ → List ℕ → Type 0
IsValueOf n ds = digits_value ds ≡ n

first : (n : ℕ) → n < 10 → IsValueOf n ((48 + n) ∷ [])
unfolding IsValueOf
first n h = omega arith

next : (n : ℕ) (ds : List ℕ) → 10 ≤ n → IsValueOf (n / 10) ds → IsValueOf n (ds ++ ((48 + n % 10) ∷ []))
unfolding IsValueOf
next n ds h k = last_digit 0 ds (48 + n % 10) ∙ ap (λ m. 10 * m + ((48 + n % 10) - 48)) k ∙ back
  where
    back : 10 * (n / 10) + ((48 + n % 10) - 48) ≡ n
    back = omega arith

pub value_of_decimal : (n : ℕ) → n < 10 ^ 64 → digits_value (decimal n) ≡ n
unfolding IsValueOf
value_of_decimal n h = decimal_by_steps_wide IsValueOf first next n h
