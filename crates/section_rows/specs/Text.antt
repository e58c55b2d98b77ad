-- Octets in hexadecimal digits, as a capture has them.
use Rattle.std.specs.Prelude.{ℕ, ◌+◌, ◌-◌, ◌*◌, List, [], ◌∷◌, nat_lt, if◌then◌else◌, codes}
use Prim.Native.String.{String}

-- the digits are 0 to 9 and small letters
abbrev digit_of : ℕ → ℕ
digit_of c = if nat_lt c 58 then c - 48 else c - 87

abbrev octets_in : List ℕ → List ℕ
octets_in [] = []
octets_in (high ∷ []) = []
octets_in (high ∷ low ∷ rest) = (16 * digit_of high + digit_of low) ∷ octets_in rest

abbrev pub hex : String → List ℕ
hex text = octets_in (codes text)
