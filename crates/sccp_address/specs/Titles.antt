-- The global title that octets spell under an indicator (Q.713, 3.4), and which titles reading gives.
use Rattle.std.specs.Prelude.{ℕ, ◌-◌, ◌*◌, ◌/◌, ◌%◌, ◌==◌, ◌||◌, ◌&&◌, nat_lt, nat_le, not, is_some, Bool, true, false, List, length, drop, slice_index, if◌then◌else◌, Option, Some, None, Ok, Err}
use Rattle.std.specs.declared.result.Result.{Result}
use Rattle.relay_base.specs.declared.limits.TheConstants.{MOST_DIGITS}
use Rattle.sccp_address.specs.declared.address.TheConstants.{NATURES, NUMBERING_PLANS, TITLE_INDICATORS}
use Rattle.sccp_address.specs.declared.address.Selector.{Selector}
use Rattle.sccp_address.specs.declared.address.AddressFault.{AddressFault}
use Rattle.sccp_address.specs.declared.address.AddressFault.TheVariants.{TitleShort}
use Rattle.sccp_address.specs.declared.titles.Parity.{Parity}
use Rattle.sccp_address.specs.declared.titles.Parity.TheVariants.{Odd, Even}
use Rattle.sccp_address.specs.Digits.{digits_in}
use Rattle.sccp_address.specs.Form.{TitleForm, no_title, bcd, other}

-- the indicators whose titles are selectors with digits
abbrev pub has_digits : ℕ → Bool
has_digits gti = gti == 1 || gti == 3 || gti == 4

-- how many octets stand before the digits
abbrev pub lead_of : ℕ → ℕ
lead_of gti = if gti == 1 then 1 else if gti == 3 then 2 else 3

-- the encoding: 1 is an odd number of digits, 2 an even one
abbrev pub encoding_of : ℕ → List ℕ → ℕ
encoding_of gti octets = if gti == 1 then 2 - slice_index octets 0 / 128 else slice_index octets 1 % 16

abbrev pub parity_of : ℕ → List ℕ → Option Parity
parity_of gti octets =
    if encoding_of gti octets == 1 then Some Odd else if encoding_of gti octets == 2 then Some Even else None

abbrev pub selector_of : ℕ → List ℕ → Selector
selector_of gti octets =
    if gti == 1 then record { gti = gti; tt = 0; np = 0; nai = slice_index octets 0 % 128 }
    else if gti == 3 then record { gti = gti; tt = slice_index octets 0; np = slice_index octets 1 / 16; nai = 0 }
    else record { gti = gti; tt = slice_index octets 0; np = slice_index octets 1 / 16; nai = slice_index octets 2 % 128 }

-- the octets before the digits run past the end, or an odd number of digits has no octet
abbrev pub is_title_short : ℕ → List ℕ → Bool
is_title_short gti octets =
    has_digits gti && (nat_lt (length octets) (lead_of gti) || (encoding_of gti octets == 1 && length octets == lead_of gti))

-- an encoding of digits, with octets for at most 24 of them
abbrev pub is_bcd : ℕ → List ℕ → Bool
is_bcd gti octets =
    has_digits gti && is_some (parity_of gti octets) && nat_le (2 * (length octets - lead_of gti)) MOST_DIGITS

unfoldable pub title_at : ℕ → List ℕ → Result TitleForm AddressFault
title_at gti octets =
    if gti == 0 then Ok no_title
    else if is_title_short gti octets then Err TitleShort
    else if is_bcd gti octets then Ok (bcd (selector_of gti octets) (digits_in (encoding_of gti octets == 1) (drop (lead_of gti) octets)))
    else Ok (other gti octets)

-- an indicator with digits, its fields in their ranges, and 0 in the fields that it doesn't carry
abbrev pub is_carried : Selector → Bool
is_carried s =
    if s.gti == 1 then s.tt == 0 && s.np == 0 && nat_lt s.nai NATURES
    else if s.gti == 3 then nat_lt s.np NUMBERING_PLANS && s.nai == 0
    else if s.gti == 4 then nat_lt s.np NUMBERING_PLANS && nat_lt s.nai NATURES
    else false

-- a title that reading gives: none, carried digits, or octets that are read as neither short nor digits
abbrev pub is_in_form : TitleForm → Bool
is_in_form no_title = true
is_in_form (bcd selector digits) = is_carried selector
is_in_form (other gti octets) =
    not (gti == 0) && nat_lt gti TITLE_INDICATORS && not (is_title_short gti octets) && not (is_bcd gti octets)

-- the selector and the digits of a title
abbrev pub dialled_of : TitleForm → Option (Selector × List ℕ)
dialled_of (bcd selector digits) = Some (selector, digits)
dialled_of no_title = None
dialled_of (other gti octets) = None
