-- The number that a word of decimal digits writes.
use Rattle.std.specs.Prelude.{ℕ, ◌+◌, ◌-◌, ◌*◌, ◌==◌, ◌||◌, nat_lt, Bool, false, List, length, fold, if◌then◌else◌, Option, Some, None}
use Rattle.std.specs.Char.{is_ascii_digit}
use Rattle.std.specs.List.{list_all}

-- 1 to 10 decimal digits
abbrev pub is_number : List ℕ → Bool
is_number word = if length word == 0 || nat_lt 10 (length word) then false else list_all is_ascii_digit word

abbrev pub digits_value : List ℕ → ℕ
digits_value word = fold (λ number digit. 10 * number + (digit - 48)) 0 word

unfoldable pub number_of : List ℕ → Option ℕ
number_of word = if is_number word then Some (digits_value word) else None
