-- Digits in binary coded decimal: two in an octet, the first one in its low half (Q.713, 3.4).
use Rattle.std.specs.Prelude.{ℕ, ◌+◌, ◌-◌, ◌*◌, ◌/◌, ◌%◌, Bool, List, [], ◌∷◌, length, take, if◌then◌else◌}

-- the halves of octets, each octet's low half first
abbrev pub halves : List ℕ → List ℕ
halves [] = []
halves (octet ∷ rest) = octet % 16 ∷ octet / 16 ∷ halves rest

-- the digits in octets: an odd number leaves the last half out
unfoldable pub digits_in : Bool → List ℕ → List ℕ
digits_in is_odd octets = if is_odd then take (2 * length octets - 1) (halves octets) else halves octets

-- the octets of digits: an odd number leaves the last half 0
abbrev pub digit_octets : List ℕ → List ℕ
digit_octets [] = []
digit_octets (last ∷ []) = last ∷ []
digit_octets (low ∷ high ∷ rest) = (low + 16 * high) ∷ digit_octets rest
