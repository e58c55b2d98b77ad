-- An address that a translation changed is short.
use Rattle.std.proofs.Common.{◌≡◌, ℕ, ◌+◌, ◌-◌, ◌*◌, ◌/◌, ◌%◌, ◌≤◌, List, [], ◌∷◌, ◌++◌, length, drop, Bool, true, false, if◌then◌else◌, refl, sym, subst, arith, length-append, length-drop, length-take}
use Rattle.std.specs.Prelude.{◌==◌, ◌&&◌, nat_le, not, is_some, slice_index, Option, Some, None, Ok, Err, IfOk, unwrap_or}
use Rattle.std.specs.declared.result.Result.{Result}
use Rattle.std.proofs.lemmas.Bool.{leb-true}
use Rattle.relay_base.specs.declared.limits.TheConstants.{MOST_DIGITS}
use Rattle.relay_base.specs.Giving.{◌>>=◌}
use Rattle.sccp_address.specs.Form.{Form, TitleForm, no_title, bcd, other}
use Rattle.sccp_address.specs.Digits.{halves, digits_in, digit_octets}
use Rattle.sccp_address.specs.Titles.{title_at, is_title_short, is_bcd, has_digits, parity_of, selector_of, encoding_of, lead_of}
use Rattle.sccp_address.specs.Parsing.{point_at, ssn_at, address_of}
use Rattle.sccp_address.specs.Spelling.{ssn_octets, lead_octets, title_octets, encoding, bit, is_odd, address_spelling}
use Rattle.sccp_address.specs.declared.address.Selector.{Selector}
use Rattle.sccp_address.specs.declared.address.AddressFault.{AddressFault}
use Rattle.sccp_address.specs.declared.address.AddressFault.TheVariants.{Short, TitleShort}
use Rattle.sccp_address.proofs.DigitLemmas.{length-halves, length-digit_octets}
use Rattle.plant_core.specs.Plant.{RoutingData, is_among}
use Rattle.plant_core.specs.Routing.{route_of, ssn_answer, title_answer, local_answer, remote_answer, is_barred_at}
use Rattle.plant_core.specs.Rewriting.{taken_ssn, address_after, called_onward}
use Rattle.plant_core.specs.declared.answer.Answer.{Answer}
use Rattle.plant_core.specs.declared.answer.Answer.TheVariants.{Local, Forward, Refused}
use Rattle.plant_core.specs.declared.answer.Origin.{Origin}
use Rattle.plant_core.specs.declared.answer.Origin.TheVariants.{Network, User as FromUser}
use Rattle.plant_core.specs.declared.answer.RouteCause.TheVariants.{PointBarred, SubsystemBarred, Unequipped}
use Rattle.plant_core.specs.declared.answer.Rewrite.TheVariants.{Keep, Set}
use Rattle.relay_base.proofs.GivingLemmas.{bound}
use Rattle.unit_law.specs.SegmentLaw.{longest_translated}

-- a title has at most 24 digits
abbrev pub IsFew : TitleForm → Type 0
IsFew no_title = Unit {0}
IsFew (bcd selector digits) = length digits ≤ MOST_DIGITS
IsFew (other gti octets) = Unit {0}

last-of-and : (a b c : Bool) → (a && b && c) ≡ true → c ≡ true
last-of-and true true c e = e
last-of-and true false c e = cc
last-of-and false b c e = cc

digits-few : (odd : Bool) (octets : List ℕ) → 2 * length octets ≤ MOST_DIGITS → length (digits_in odd octets) ≤ MOST_DIGITS
unfolding digits_in
digits-few true octets few = omega (arith, length-take (2 * length octets - 1) (halves octets), length-halves octets)
digits-few false octets few = omega (arith, length-halves octets)

title-few : (gti : ℕ) (octets : List ℕ) → IfOk (title_at gti octets) IsFew
unfolding title_at
title-few gti octets = by_tests (gti == 0) (is_title_short gti octets) (is_bcd gti octets) refl
  where
    by_tests : (zero short digits : Bool) → is_bcd gti octets ≡ digits
        → IfOk (if zero then Ok no_title else if short then Err TitleShort else if digits then Ok (bcd (selector_of gti octets) (digits_in (encoding_of gti octets == 1) (drop (lead_of gti) octets))) else Ok (other gti octets)) IsFew
    by_tests true short digits e = tt
    by_tests false true digits e = tt
    by_tests false false true e =
        let within : 2 * (length octets - lead_of gti) ≤ MOST_DIGITS = leb-true (2 * (length octets - lead_of gti)) MOST_DIGITS (last-of-and (has_digits gti) (is_some (parity_of gti octets)) (nat_le (2 * (length octets - lead_of gti)) MOST_DIGITS) e) in
        digits-few (encoding_of gti octets == 1) (drop (lead_of gti) octets) (omega (arith, length-drop (lead_of gti) octets))
    by_tests false false false e = tt

-- whatever part is read with the octets behind it
abbrev Any : Option ℕ × List ℕ → Type 0
Any x = Unit {0}

any : (r : Result (Option ℕ × List ℕ) AddressFault) → IfOk r Any
any (Ok x) = tt
any (Err e) = tt

abbrev IsShortTitled : Form → Type 0
IsShortTitled a = IsFew a.title

pub address-few : (octets : List ℕ) → IfOk (address_of octets) IsShortTitled
unfolding address_of
address-few octets = by_test (length octets == 0)
  where
    by_test : (test : Bool) → IfOk {T = Form} (if test then Err Short else (point_at (slice_index octets 0 % 2 == 1) (drop 1 octets) >>= λ point. ssn_at (slice_index octets 0 / 2 % 2 == 1) point.1 >>= λ ssn. title_at (slice_index octets 0 / 4 % 16) ssn.1 >>= λ title. Ok (record { point = point.0; ssn = ssn.0; title = title; on_ssn = slice_index octets 0 / 64 % 2 == 1 }))) (λ a. IsFew a.title)
    by_test true = tt
    by_test false =
        bound Any IsShortTitled (point_at (slice_index octets 0 % 2 == 1) (drop 1 octets)) _ (any (point_at (slice_index octets 0 % 2 == 1) (drop 1 octets))) (λ point _.
        bound Any IsShortTitled (ssn_at (slice_index octets 0 / 2 % 2 == 1) point.1) _ (any (ssn_at (slice_index octets 0 / 2 % 2 == 1) point.1)) (λ ssn _.
        bound IsFew IsShortTitled (title_at (slice_index octets 0 / 4 % 16) ssn.1) _ (title-few (slice_index octets 0 / 4 % 16) ssn.1) (λ title t. t)))

-- what stands before the digits
lead-few : (s : Selector) (odd : Bool) → length (lead_octets s odd) ≤ 3
lead-few s odd = by_tests (s.gti == 1) (s.gti == 3)
  where
    by_tests : (first second : Bool) → length (if first then (128 * bit odd + s.nai) ∷ [] else if second then s.tt ∷ (16 * s.np + encoding odd) ∷ [] else s.tt ∷ (16 * s.np + encoding odd) ∷ s.nai ∷ []) ≤ 3
    by_tests true second = omega arith
    by_tests false true = omega arith
    by_tests false false = omega arith

ssn-few : (ssn : Option ℕ) → length (ssn_octets ssn) ≤ 1
ssn-few None = omega arith
ssn-few (Some ssn) = omega arith

-- only an address with a title of digits is translated
abbrev HasDigits : TitleForm → Type 0
HasDigits no_title = ⊥
HasDigits (bcd selector digits) = Unit {0}
HasDigits (other gti octets) = ⊥

abbrev Rewrites : Answer → Type 0
Rewrites (Local ssn) = ⊥
Rewrites (Refused cause local) = ⊥
Rewrites (Forward point Keep hop) = ⊥
Rewrites (Forward point (Set ssn on_ssn) hop) = Unit {0}

local-keeps : (p : RoutingData) (ssn : ℕ) → Rewrites (local_answer p ssn) → ⊥
unfolding local_answer
local-keeps p ssn = by_tests (not (is_among ssn p.users)) (is_among ssn p.out_of_service)
  where
    by_tests : (a b : Bool) → Rewrites (if a then Refused Unequipped None else if b then Refused SubsystemBarred (Some ssn) else Local ssn) → ⊥
    by_tests true b r = r
    by_tests false true r = r
    by_tests false false r = r

remote-keeps : (p : RoutingData) (point : ℕ) (ssn hop : Option ℕ) → Rewrites (remote_answer p point ssn hop) → ⊥
remote-keeps p point ssn hop = by_tests (is_among point p.barred_points) (is_barred_at p point ssn)
  where
    by_tests : (a b : Bool) → Rewrites (if a then Refused PointBarred None else if b then Refused SubsystemBarred None else Forward point Keep hop) → ⊥
    by_tests true b r = r
    by_tests false true r = r
    by_tests false false r = r

ssn-keeps : (p : RoutingData) (a : Form) (hop : Option ℕ) (origin : Origin) → Rewrites (ssn_answer p a hop origin) → ⊥
unfolding ssn_answer
ssn-keeps p a hop Network r = local-keeps p (unwrap_or a.ssn 0) r
ssn-keeps p a hop FromUser r = by_point a.point r
  where
    by_point : (point : Option ℕ) → Rewrites (elim point [ None ↦ local_answer p (unwrap_or a.ssn 0) | Some at ↦ (if at == p.own then local_answer p (unwrap_or a.ssn 0) else remote_answer p at a.ssn hop) ]) → ⊥
    by_point None r = local-keeps p (unwrap_or a.ssn 0) r
    by_point (Some at) r = by_test (at == p.own) r
      where
        by_test : (own : Bool) → Rewrites (if own then local_answer p (unwrap_or a.ssn 0) else remote_answer p at a.ssn hop) → ⊥
        by_test true r = local-keeps p (unwrap_or a.ssn 0) r
        by_test false r = remote-keeps p at a.ssn hop r

title-digits : (p : RoutingData) (title : TitleForm) (hop : Option ℕ) → Rewrites (title_answer p title hop) → HasDigits title
unfolding title_answer
title-digits p no_title hop r = absurd r
title-digits p (bcd s d) hop r = tt
title-digits p (other gti octets) hop r = absurd r

pub rewrites-digits : (p : RoutingData) (a : Form) (hop : Option ℕ) (origin : Origin) → Rewrites (route_of p a hop origin) → HasDigits a.title
unfolding route_of
rewrites-digits p a hop origin = by_test a.on_ssn
  where
    by_test : (on_ssn : Bool) → Rewrites (if on_ssn then ssn_answer p a hop origin else title_answer p a.title hop) → HasDigits a.title
    by_test true r = absurd (ssn-keeps p a hop origin r)
    by_test false r = title-digits p a.title hop r

-- a translated address: the indicator, a subsystem number, and its title
after-few : (a : Form) (ssn : Option ℕ) (on_ssn : Bool) → HasDigits a.title → IsFew a.title → length (address_spelling (address_after a (Set ssn on_ssn))) ≤ longest_translated
unfolding address_spelling title_octets
after-few a ssn on_ssn = by_title a.title
  where
    by_title : (title : TitleForm) → HasDigits title → IsFew title
        → length (address_spelling (record { point = None; ssn = taken_ssn ssn a.ssn; title = title; on_ssn = on_ssn })) ≤ longest_translated
    by_title no_title digits few = absurd digits
    by_title (other gti octets) digits few = absurd digits
    by_title (bcd s d) digits few =
        omega (arith, few, ssn-few (taken_ssn ssn a.ssn), lead-few s (is_odd d), length-digit_octets d, length-append (ssn_octets (taken_ssn ssn a.ssn)) (lead_octets s (is_odd d) ++ digit_octets d), length-append (lead_octets s (is_odd d)) (digit_octets d))

pub translated-few : (routing : RoutingData) (octets : List ℕ) (a : Form) (hop onward_hop : Option ℕ) (origin : Origin) (point : ℕ) (ssn : Option ℕ) (on_ssn : Bool)
    → address_of octets ≡ Ok a → route_of routing a hop origin ≡ Forward point (Set ssn on_ssn) onward_hop
    → length (called_onward (Set ssn on_ssn) octets) ≤ longest_translated
unfolding called_onward
translated-few routing octets a hop onward_hop origin point ssn on_ssn reads goes =
    let digits : HasDigits a.title = rewrites-digits routing a hop origin (subst Rewrites (sym goes) tt) in
    let few : IsFew a.title = subst (λ (r : Result Form AddressFault). IfOk r IsShortTitled) reads (address-few octets) in
    rw reads (after-few a ssn on_ssn digits few)
