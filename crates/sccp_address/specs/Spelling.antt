-- The octets of an address (Q.713, 3.4 and 3.5).
use Rattle.std.specs.Prelude.{ℕ, ◌+◌, ◌*◌, ◌/◌, ◌%◌, ◌==◌, is_some, Bool, List, [], ◌∷◌, ◌++◌, length, if◌then◌else◌, Option, Some, None}
use Rattle.sccp_address.specs.declared.address.Selector.{Selector}
use Rattle.sccp_address.specs.Digits.{digit_octets}
use Rattle.sccp_address.specs.Form.{Form, TitleForm, no_title, bcd, other}

abbrev pub point_octets : Option ℕ → List ℕ
point_octets None = []
point_octets (Some point) = point % 256 ∷ point / 256 ∷ []

abbrev pub ssn_octets : Option ℕ → List ℕ
ssn_octets None = []
ssn_octets (Some ssn) = ssn ∷ []

abbrev pub bit : Bool → ℕ
bit b = if b then 1 else 0

abbrev pub is_odd : List ℕ → Bool
is_odd digits = length digits % 2 == 1

-- the encoding of a number of digits: 1 for an odd one, 2 for an even one
abbrev pub encoding : Bool → ℕ
encoding odd = if odd then 1 else 2

-- what stands before the digits
abbrev pub lead_octets : Selector → Bool → List ℕ
lead_octets s odd =
    if s.gti == 1 then (128 * bit odd + s.nai) ∷ []
    else if s.gti == 3 then s.tt ∷ (16 * s.np + encoding odd) ∷ []
    else s.tt ∷ (16 * s.np + encoding odd) ∷ s.nai ∷ []

unfoldable pub title_octets : TitleForm → List ℕ
title_octets no_title = []
title_octets (bcd selector digits) = lead_octets selector (is_odd digits) ++ digit_octets digits
title_octets (other gti octets) = octets

abbrev pub gti_of : TitleForm → ℕ
gti_of no_title = 0
gti_of (bcd selector digits) = selector.gti
gti_of (other gti octets) = gti

-- the indicator: what follows it, and on what the address routes
abbrev pub indicator_of : Form → ℕ
indicator_of a = bit (is_some a.point) + 2 * bit (is_some a.ssn) + 4 * gti_of a.title + 64 * bit a.on_ssn

unfoldable pub address_spelling : Form → List ℕ
address_spelling a = indicator_of a ∷ point_octets a.point ++ ssn_octets a.ssn ++ title_octets a.title
