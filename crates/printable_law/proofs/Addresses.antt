-- The law of addresses.
use Rattle.std.proofs.Common.{ℕ, ◌+◌, ◌-◌, ◌*◌, ◌/◌, ◌%◌, ◌<◌, ◌≤◌, ◌==◌, nat_lt, Bool, true, false, List, [], ◌∷◌, ◌++◌, length, take, drop, slice_index, Option, Some, None, is_some, Ok, Err, arith}
use Rattle.std.specs.Prelude.{IfSome, IfOk}
use Rattle.std.specs.List.{AllByRecursion}
use Rattle.std.specs.declared.result.Result.{Result}
use Rattle.relay_base.proofs.GivingLemmas.{bound}
use Rattle.relay_base.specs.declared.limits.TheConstants.{DIGIT_VALUES, POINT_CODES}
use Rattle.sccp_address.specs.Digits.{halves, digits_in, digit_octets}
use Rattle.sccp_address.specs.Form.{Form, TitleForm, no_title, bcd, other}
use Rattle.sccp_address.specs.Parsing.{point_at, ssn_at, address_of}
use Rattle.sccp_address.specs.Spelling.{point_octets, ssn_octets, bit, is_odd, encoding, lead_octets, title_octets, gti_of, address_spelling}
use Rattle.sccp_address.specs.Titles.{lead_of, encoding_of, selector_of, is_title_short, is_bcd, title_at}
use Rattle.sccp_address.specs.declared.address.AddressFault.{AddressFault}
use Rattle.sccp_address.specs.declared.address.AddressFault.TheVariants.{Short, TitleShort}
use Rattle.sccp_address.specs.declared.address.Selector.{Selector}
use Rattle.plant_core.specs.declared.answer.Rewrite.{Rewrite}
use Rattle.plant_core.specs.declared.answer.Rewrite.TheVariants.{Keep, Set}
use Rattle.plant_core.specs.Rewriting.{taken_ssn, address_after, onward_by, called_onward}
use Rattle.printable_law.specs.OctetLaw.{IsOctet, AreOctets, IsSelector, IsTitle, IsForm, IsRewrite, AddressesHaveOctets}
use Rattle.printable_law.proofs.Lists.{either, all-append, all-take, all-drop, octet-at}

-- Reading.

abbrev IsDigit : ℕ → Type 0
IsDigit d = d < DIGIT_VALUES

halves-digits : (octets : List ℕ) → AreOctets octets → AllByRecursion IsDigit (halves octets)
halves-digits [] are = tt
halves-digits (octet ∷ rest) are = (omega arith, (omega (arith, are.0), halves-digits rest are.1))

digits-read : (odd : Bool) (octets : List ℕ) → AreOctets octets → AllByRecursion IsDigit (digits_in odd octets)
unfolding digits_in
digits-read odd octets are =
    either (AllByRecursion IsDigit) odd (take (2 * length octets - 1) (halves octets)) (halves octets)
    (all-take IsDigit (2 * length octets - 1) (halves octets) (halves-digits octets are)) (halves-digits octets are)

selector-read : (gti : ℕ) (octets : List ℕ) → gti < 16 → AreOctets octets → IsSelector (selector_of gti octets)
selector-read gti octets small are =
    let first = octet-at octets 0 are in
    let second = octet-at octets 1 are in
    either IsSelector (gti == 1) _ _ (record { gti = small; tt = omega arith; np = omega arith; nai = omega arith })
    (either IsSelector (gti == 3) _ _ (record { gti = small; tt = first; np = omega (arith, second); nai = omega arith })
    (record { gti = small; tt = first; np = omega (arith, second); nai = omega arith }))

title-read : (gti : ℕ) (octets : List ℕ) → gti < 16 → AreOctets octets → IfOk (title_at gti octets) IsTitle
unfolding title_at
title-read gti octets small are =
    either (λ r. IfOk r IsTitle) (gti == 0) (Ok no_title) _ tt
    (either (λ r. IfOk r IsTitle) (is_title_short gti octets) (Err TitleShort) _ tt
    (either (λ r. IfOk r IsTitle) (is_bcd gti octets) _ (Ok (other gti octets))
    (selector-read gti octets small are, digits-read (encoding_of gti octets == 1) (drop (lead_of gti) octets) (all-drop IsOctet (lead_of gti) octets are))
    (small, are)))

abbrev IsPoint : ℕ → Type 0
IsPoint point = point < POINT_CODES

point-read : (is : Bool) (octets : List ℕ) → AreOctets octets → IfOk (point_at is octets) (λ r. IfSome r.0 IsPoint × AreOctets r.1)
unfolding point_at
point-read false octets are = (tt, are)
point-read true octets are =
    either (λ (r : Result (Option ℕ × List ℕ) AddressFault). IfOk r (λ r. IfSome r.0 IsPoint × AreOctets r.1)) (nat_lt (length octets) 2) (Err Short) _ tt
    (omega arith, all-drop IsOctet 2 octets are)

ssn-read : (is : Bool) (octets : List ℕ) → AreOctets octets → IfOk (ssn_at is octets) (λ r. IfSome r.0 IsOctet × AreOctets r.1)
unfolding ssn_at
ssn-read false octets are = (tt, are)
ssn-read true octets are =
    either (λ (r : Result (Option ℕ × List ℕ) AddressFault). IfOk r (λ r. IfSome r.0 IsOctet × AreOctets r.1)) (length octets == 0) (Err Short) _ tt
    (octet-at octets 0 are, all-drop IsOctet 1 octets are)

pub address-read : (octets : List ℕ) → AreOctets octets → IfOk (address_of octets) IsForm
unfolding address_of
address-read octets are =
    let rest = drop 1 octets in
    let indicator = slice_index octets 0 in
    either (λ r. IfOk r IsForm) (length octets == 0) (Err Short) _ tt
    (bound (λ r. IfSome r.0 IsPoint × AreOctets r.1) IsForm (point_at (indicator % 2 == 1) rest) _ (point-read (indicator % 2 == 1) rest (all-drop IsOctet 1 octets are)) (λ point p.
    bound (λ r. IfSome r.0 IsOctet × AreOctets r.1) IsForm (ssn_at (indicator / 2 % 2 == 1) point.1) _ (ssn-read (indicator / 2 % 2 == 1) point.1 p.1) (λ ssn s.
    bound IsTitle IsForm (title_at (indicator / 4 % 16) ssn.1) _ (title-read (indicator / 4 % 16) ssn.1 (omega arith) s.1) (λ title t. record { point = p.0; ssn = s.0; title = t }))))

-- Writing.

point-written : (point : Option ℕ) → IfSome point IsPoint → AreOctets (point_octets point)
point-written None small = tt
point-written (Some point) small = (omega arith, (omega (arith, small), tt))

ssn-written : (ssn : Option ℕ) → IfSome ssn IsOctet → AreOctets (ssn_octets ssn)
ssn-written None small = tt
ssn-written (Some ssn) small = (small, tt)

digits-written : (digits : List ℕ) → AllByRecursion IsDigit digits → AreOctets (digit_octets digits)
digits-written [] all = tt
digits-written (last ∷ []) all = (omega (arith, all.0), tt)
digits-written (low ∷ high ∷ rest) all = (omega (arith, all.0, all.1.0), digits-written rest all.1.1)

bit-small : (b : Bool) → bit b ≤ 1
bit-small true = omega arith
bit-small false = omega arith

encoding-small : (odd : Bool) → encoding odd ≤ 2
encoding-small true = omega arith
encoding-small false = omega arith

lead-written : (s : Selector) (odd : Bool) → IsSelector s → AreOctets (lead_octets s odd)
lead-written s odd is =
    let plan : 16 * s.np + encoding odd < 256 = omega (arith, is.np, encoding-small odd) in
    either AreOctets (s.gti == 1) _ _ (omega (arith, is.nai, bit-small odd), tt)
    (either AreOctets (s.gti == 3) _ _ (is.tt, (plan, tt)) (is.tt, (plan, (omega (arith, is.nai), tt))))

title-written : (title : TitleForm) → IsTitle title → AreOctets (title_octets title)
unfolding title_octets
title-written no_title is = tt
title-written (bcd selector digits) is =
    all-append IsOctet (lead_octets selector (is_odd digits)) (digit_octets digits) (lead-written selector (is_odd digits) is.0) (digits-written digits is.1)
title-written (other gti octets) is = is.1

gti-small : (title : TitleForm) → IsTitle title → gti_of title < 16
gti-small no_title is = omega arith
gti-small (bcd selector digits) is = is.0.gti
gti-small (other gti octets) is = is.0

pub address-written : (a : Form) → IsForm a → AreOctets (address_spelling a)
unfolding address_spelling
address-written a is = (
  omega (arith, bit-small (is_some a.point), bit-small (is_some a.ssn), gti-small a.title is.title, bit-small a.on_ssn),
  all-append IsOctet (point_octets a.point ++ ssn_octets a.ssn) (title_octets a.title)
      (all-append IsOctet (point_octets a.point) (ssn_octets a.ssn) (point-written a.point is.point) (ssn-written a.ssn is.ssn))
      (title-written a.title is.title),
)

-- Going on.

taken-small : (named there : Option ℕ) → IfSome named IsOctet → IfSome there IsOctet → IfSome (taken_ssn named there) IsOctet
taken-small None there n t = t
taken-small (Some ssn) there n t = n

after-is : (a : Form) (rewrite : Rewrite) → IsForm a → IsRewrite rewrite → IsForm (address_after a rewrite)
after-is a Keep is small = is
after-is a (Set ssn on_ssn) is small = record { point = tt; ssn = taken-small ssn a.ssn small is.ssn; title = is.title }

by-address : (r : Result Form AddressFault) (rewrite : Rewrite) (octets : List ℕ) → IfOk r IsForm → IsRewrite rewrite → AreOctets octets → AreOctets (onward_by r rewrite octets)
by-address (Ok a) rewrite octets is small are = address-written (address_after a rewrite) (after-is a rewrite is small)
by-address (Err fault) rewrite octets is small are = are

goes-onward : (rewrite : Rewrite) (octets : List ℕ) → IsRewrite rewrite → AreOctets octets → AreOctets (called_onward rewrite octets)
unfolding called_onward
goes-onward rewrite octets small are = by-address (address_of octets) rewrite octets (address-read octets are) small are

pub addresses_have_octets : AddressesHaveOctets
addresses_have_octets = record { read = address-read; written = address-written; onward = goes-onward }
