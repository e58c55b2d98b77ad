-- Lemmas on titles that are read as neither short nor digits.
use Rattle.std.proofs.Common.{◌≡◌, ℕ, List, drop, if◌then◌else◌, Bool, true, false, not, nat_eq, nat_lt, Ok, Err, refl}
use Rattle.std.specs.declared.result.Result.{Result}
use Rattle.sccp_address.specs.declared.address.AddressFault.{AddressFault}
use Rattle.sccp_address.specs.Form.{TitleForm, no_title, bcd, other}
use Rattle.sccp_address.specs.Titles.{title_at, is_title_short, is_bcd, is_in_form, selector_of, encoding_of, lead_of}
use Rattle.sccp_address.specs.Digits.{digits_in}
use Rattle.sccp_address.specs.declared.address.Selector.{Selector}
use Rattle.sccp_address.specs.declared.address.AddressFault.TheVariants.{TitleShort}
use Rattle.std.specs.Prelude.{◌==◌, ◌&&◌}
use Rattle.sccp_address.specs.declared.address.TheConstants.{TITLE_INDICATORS}

-- octets that stay as they are
abbrev pub is_kept : Result TitleForm AddressFault → Bool
is_kept (Ok (other gti octets)) = true
is_kept (Ok no_title) = false
is_kept (Ok (bcd selector digits)) = false
is_kept (Err fault) = false

kept_cases : (zero below short digits : Bool) (selector : Selector) (numbers : List ℕ) (gti : ℕ) (octets : List ℕ) → zero ≡ false → below ≡ true
    → (not zero && below && not short && not digits)
    ≡ is_kept (if zero then Ok no_title else if short then Err TitleShort else if digits then Ok (bcd selector numbers) else Ok (other gti octets))
kept_cases true below short digits selector numbers gti octets e f = cc
kept_cases false false short digits selector numbers gti octets e f = cc
kept_cases false true true digits selector numbers gti octets e f = elim digits as (λ v. (true && true && false && not v) ≡ false) [ true ↦ refl | false ↦ refl ]
kept_cases false true false true selector numbers gti octets e f = refl
kept_cases false true false false selector numbers gti octets e f = refl

-- octets that are read as neither short nor digits are those that reading keeps
pub is_kept-title_at : (gti : ℕ) (octets : List ℕ) → nat_eq gti 0 ≡ false → nat_lt gti TITLE_INDICATORS ≡ true
    → is_in_form (other gti octets) ≡ is_kept (title_at gti octets)
unfolding title_at
is_kept-title_at gti octets nonzero below =
    kept_cases (gti == 0) (nat_lt gti TITLE_INDICATORS) (is_title_short gti octets) (is_bcd gti octets)
    (selector_of gti octets) (digits_in (encoding_of gti octets == 1) (drop (lead_of gti) octets)) gti octets nonzero below

pub ruleset kept = (is_kept-title_at)
