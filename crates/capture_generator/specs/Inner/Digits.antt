-- The decimal digits of a count, from the least on.
use Rattle.std.specs.Prelude.{ℕ, ◌+◌, ◌*◌, ◌<◌, Bool, true, false, nat_lt, List, [], ◌∷◌, ◌++◌, if◌then◌else◌}

-- the number that digits write
abbrev pub number_of : List ℕ → ℕ
number_of [] = 0
number_of (d ∷ ds) = d + 10 * number_of ds

-- each is a digit, and no zero stands at the top
abbrev pub AreDigits : List ℕ → Type 0
AreDigits [] = Unit {0}
AreDigits (d ∷ ds) = (d < 10) × (0 < number_of (d ∷ ds)) × AreDigits ds

-- the digits of the number one greater
abbrev pub one_greater : List ℕ → List ℕ
one_greater [] = 1 ∷ []
one_greater (d ∷ ds) = if nat_lt d 9 then (d + 1) ∷ ds else 0 ∷ one_greater ds

-- with a digit 1 at the top, where one was carried past it
abbrev pub carried : Bool → List ℕ → List ℕ
carried true ds = ds ++ 1 ∷ []
carried false ds = ds
