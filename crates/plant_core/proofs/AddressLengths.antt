-- An address as it is spelled has no more octets than it was read from.
use Rattle.std.proofs.Common.{◌≡◌, ℕ, ◌+◌, ◌-◌, ◌*◌, ◌/◌, ◌%◌, ◌≤◌, List, [], ◌∷◌, ◌++◌, length, take, drop, Bool, true, false, if◌then◌else◌, refl, arith, length-append, length-drop, length-take}
use Rattle.std.specs.Prelude.{◌==◌, ◌||◌, ◌&&◌, nat_lt, is_some, slice_index, Option, Some, None, Ok, Err, IfOk}
use Rattle.std.specs.declared.result.Result.{Result}
use Rattle.std.proofs.lemmas.Bool.{eqb-false, ltb-false}
use Rattle.relay_base.specs.declared.limits.TheConstants.{POINT_CODES}
use Rattle.relay_base.specs.Giving.{◌>>=◌}
use Rattle.relay_base.proofs.GivingLemmas.{bound}
use Rattle.sccp_address.specs.Form.{Form, TitleForm, no_title, bcd, other}
use Rattle.sccp_address.specs.Digits.{halves, digits_in, digit_octets}
use Rattle.sccp_address.specs.Titles.{title_at, is_title_short, is_bcd, has_digits, parity_of, selector_of, encoding_of, lead_of}
use Rattle.sccp_address.specs.Parsing.{point_at, ssn_at, address_of}
use Rattle.sccp_address.specs.Spelling.{point_octets, ssn_octets, lead_octets, title_octets, bit, encoding, is_odd, address_spelling}
use Rattle.sccp_address.specs.declared.address.Selector.{Selector}
use Rattle.sccp_address.specs.declared.address.AddressFault.{AddressFault}
use Rattle.sccp_address.specs.declared.address.AddressFault.TheVariants.{Short, TitleShort}
use Rattle.sccp_address.proofs.DigitLemmas.{length-halves, length-digit_octets}
use Rattle.plant_core.specs.declared.answer.Rewrite.{Rewrite}
use Rattle.plant_core.specs.declared.answer.Rewrite.TheVariants.{Keep, Set}
use Rattle.plant_core.specs.Rewriting.{taken_ssn, address_after, onward_by, called_onward}

abbrev PointWithin : List ℕ → Option ℕ × List ℕ → Type 0
PointWithin octets x = length (point_octets x.0) + length x.1 ≤ length octets

abbrev SsnWithin : List ℕ → Option ℕ × List ℕ → Type 0
SsnWithin octets x = length (ssn_octets x.0) + length x.1 ≤ length octets

abbrev TitleWithin : List ℕ → TitleForm → Type 0
TitleWithin octets title = length (title_octets title) ≤ length octets

abbrev AddressWithin : List ℕ → Form → Type 0
AddressWithin octets a = length (address_spelling a) ≤ length octets

point-within : (present : Bool) (octets : List ℕ) → IfOk (point_at present octets) (PointWithin octets)
unfolding point_at
point-within false octets = omega arith
point-within true octets = by_test (nat_lt (length octets) 2) refl
  where
    by_test : (test : Bool) → nat_lt (length octets) 2 ≡ test → IfOk (if test then Err Short else Ok (Some ((slice_index octets 0 + 256 * slice_index octets 1) % POINT_CODES), drop 2 octets)) (PointWithin octets)
    by_test true e = tt
    by_test false e = omega (arith, ltb-false _ _ e, length-drop 2 octets)

ssn-within : (present : Bool) (octets : List ℕ) → IfOk (ssn_at present octets) (SsnWithin octets)
unfolding ssn_at
ssn-within false octets = omega arith
ssn-within true octets = by_test (length octets == 0) refl
  where
    by_test : (test : Bool) → (length octets == 0) ≡ test → IfOk (if test then Err Short else Ok (Some (slice_index octets 0), drop 1 octets)) (SsnWithin octets)
    by_test true e = tt
    by_test false e = omega (arith, eqb-false _ _ e, length-drop 1 octets)

-- what stands before the digits is as long as it was
length-lead_by : (gti : ℕ) (octets : List ℕ) (odd : Bool) (selector : Selector) → selector.gti ≡ gti → length (lead_octets selector odd) ≡ lead_of gti
length-lead_by gti octets odd selector e = rw e (by_tests (gti == 1) (gti == 3))
  where
    by_tests : (first second : Bool) → length (if first then (128 * bit odd + selector.nai) ∷ [] else if second then selector.tt ∷ (16 * selector.np + encoding odd) ∷ [] else selector.tt ∷ (16 * selector.np + encoding odd) ∷ selector.nai ∷ []) ≡ (if first then 1 else if second then 2 else 3)
    by_tests true second = refl
    by_tests false true = refl
    by_tests false false = refl

abbrev chosen : Bool → Bool → Selector → Selector → Selector → Selector
chosen first second nature plan both = if first then nature else if second then plan else both

gti-chosen : (first second : Bool) (gti : ℕ) (nature plan both : Selector) → nature.gti ≡ gti → plan.gti ≡ gti → both.gti ≡ gti → (chosen first second nature plan both).gti ≡ gti
gti-chosen true second gti nature plan both e f g = e
gti-chosen false true gti nature plan both e f g = f
gti-chosen false false gti nature plan both e f g = g

gti-selector_of : (gti : ℕ) (octets : List ℕ) → (selector_of gti octets).gti ≡ gti
gti-selector_of gti octets =
    gti-chosen (gti == 1) (gti == 3) gti
    (record { gti = gti; tt = 0; np = 0; nai = slice_index octets 0 % 128 })
    (record { gti = gti; tt = slice_index octets 0; np = slice_index octets 1 / 16; nai = 0 })
    (record { gti = gti; tt = slice_index octets 0; np = slice_index octets 1 / 16; nai = slice_index octets 2 % 128 })
    refl refl refl

length-lead_octets : (gti : ℕ) (octets : List ℕ) (odd : Bool) → length (lead_octets (selector_of gti octets) odd) ≡ lead_of gti
length-lead_octets gti octets odd = length-lead_by gti octets odd (selector_of gti octets) (gti-selector_of gti octets)

-- the digits have no more octets than they were read from
length-digits : (odd : Bool) (octets : List ℕ) → length (digit_octets (digits_in odd octets)) ≤ length octets
unfolding digits_in
length-digits true octets =
    omega (arith, length-digit_octets (take (2 * length octets - 1) (halves octets)), length-take (2 * length octets - 1) (halves octets), length-halves octets)
length-digits false octets = omega (arith, length-digit_octets (halves octets), length-halves octets)

-- a title whose octets before the digits are there
not-short : (digits short encoding last : Bool) → (digits && (short || (encoding && last))) ≡ false → digits ≡ true → short ≡ false
not-short true true encoding last e d = cc
not-short true false encoding last e d = refl
not-short false short encoding last e d = cc

first-of-and : (a b c : Bool) → (a && b && c) ≡ true → a ≡ true
first-of-and true b c e = refl
first-of-and false b c e = cc

bcd-within : (gti : ℕ) (octets : List ℕ) → is_title_short gti octets ≡ false → is_bcd gti octets ≡ true
    → length (lead_octets (selector_of gti octets) (is_odd (digits_in (encoding_of gti octets == 1) (drop (lead_of gti) octets))) ++ digit_octets (digits_in (encoding_of gti octets == 1) (drop (lead_of gti) octets))) ≤ length octets
bcd-within gti octets long digits =
    let has : has_digits gti ≡ true = first-of-and (has_digits gti) (is_some (parity_of gti octets)) _ digits in
    let whole : nat_lt (length octets) (lead_of gti) ≡ false = not-short (has_digits gti) (nat_lt (length octets) (lead_of gti)) (encoding_of gti octets == 1) (length octets == lead_of gti) long has in
    let odd = encoding_of gti octets == 1 in
    let rest = drop (lead_of gti) octets in
    omega (arith, ltb-false _ _ whole, length-drop (lead_of gti) octets, length-digits odd rest, length-lead_octets gti octets (is_odd (digits_in odd rest)), length-append (lead_octets (selector_of gti octets) (is_odd (digits_in odd rest))) (digit_octets (digits_in odd rest)))

title-within : (gti : ℕ) (octets : List ℕ) → IfOk (title_at gti octets) (TitleWithin octets)
unfolding title_at title_octets
title-within gti octets = by_tests (gti == 0) (is_title_short gti octets) (is_bcd gti octets) refl refl
  where
    by_tests : (zero short digits : Bool) → is_title_short gti octets ≡ short → is_bcd gti octets ≡ digits
        → IfOk (if zero then Ok no_title else if short then Err TitleShort else if digits then Ok (bcd (selector_of gti octets) (digits_in (encoding_of gti octets == 1) (drop (lead_of gti) octets))) else Ok (other gti octets)) (TitleWithin octets)
    by_tests true short digits e f = omega arith
    by_tests false true digits e f = tt
    by_tests false false true e f = bcd-within gti octets e f
    by_tests false false false e f = omega arith

address-within : (octets : List ℕ) → IfOk (address_of octets) (AddressWithin octets)
unfolding address_of address_spelling
address-within octets = by_test (length octets == 0) refl
  where
    by_test : (test : Bool) → (length octets == 0) ≡ test → IfOk (if test then Err Short else (point_at (slice_index octets 0 % 2 == 1) (drop 1 octets) >>= λ point. ssn_at (slice_index octets 0 / 2 % 2 == 1) point.1 >>= λ ssn. title_at (slice_index octets 0 / 4 % 16) ssn.1 >>= λ title. Ok (record { point = point.0; ssn = ssn.0; title = title; on_ssn = slice_index octets 0 / 64 % 2 == 1 }))) (AddressWithin octets)
    by_test true e = tt
    by_test false e =
        bound (PointWithin (drop 1 octets)) (AddressWithin octets) (point_at (slice_index octets 0 % 2 == 1) (drop 1 octets)) _ (point-within (slice_index octets 0 % 2 == 1) (drop 1 octets)) (λ point p.
        bound (SsnWithin point.1) (AddressWithin octets) (ssn_at (slice_index octets 0 / 2 % 2 == 1) point.1) _ (ssn-within (slice_index octets 0 / 2 % 2 == 1) point.1) (λ ssn s.
        bound (TitleWithin ssn.1) (AddressWithin octets) (title_at (slice_index octets 0 / 4 % 16) ssn.1) _ (title-within (slice_index octets 0 / 4 % 16) ssn.1) (λ title t.
        omega (arith, p, s, t, eqb-false _ _ e, length-drop 1 octets, length-append (point_octets point.0 ++ ssn_octets ssn.0) (title_octets title), length-append (point_octets point.0) (ssn_octets ssn.0)))))

few : (given there : Option ℕ) → length (ssn_octets (taken_ssn given there)) ≤ length (ssn_octets there) + 1
few None None = omega arith
few None (Some x) = omega arith
few (Some x) None = omega arith
few (Some x) (Some y) = omega arith

-- and one octet more at most as it goes on
after-within : (rewrite : Rewrite) (a : Form) → length (address_spelling (address_after a rewrite)) ≤ length (address_spelling a) + 1
unfolding address_spelling
after-within Keep a = omega arith
after-within (Set ssn on_ssn) a =
    omega (arith, few ssn a.ssn, length-append (ssn_octets (taken_ssn ssn a.ssn)) (title_octets a.title), length-append (point_octets a.point ++ ssn_octets a.ssn) (title_octets a.title), length-append (point_octets a.point) (ssn_octets a.ssn))

pub length-called_onward : (rewrite : Rewrite) (octets : List ℕ) → length (called_onward rewrite octets) ≤ length octets + 1
unfolding called_onward
length-called_onward rewrite octets = by_address (address_of octets) (address-within octets)
  where
    by_address : (a : Result Form AddressFault) → IfOk a (AddressWithin octets) → length (onward_by a rewrite octets) ≤ length octets + 1
    by_address (Ok a) within = omega (arith, after-within rewrite a)
    by_address (Err fault) within = omega arith

-- and none where it goes on as it is
pub length-called_kept : (octets : List ℕ) → length (called_onward Keep octets) ≤ length octets
unfolding called_onward
length-called_kept octets = by_address (address_of octets) (address-within octets)
  where
    by_address : (a : Result Form AddressFault) → IfOk a (AddressWithin octets) → length (onward_by a Keep octets) ≤ length octets
    by_address (Ok a) within = within
    by_address (Err fault) within = omega arith
