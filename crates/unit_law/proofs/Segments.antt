-- The segments of a user's unit that goes on.
use Rattle.std.proofs.Common.{◌≡◌, ℕ, ◌+◌, ◌-◌, ◌/◌, ◌≤◌, ◌<◌, List, length, Bool, true, false, if◌then◌else◌, refl, subst, arith}
use Rattle.std.specs.Prelude.{◌&&◌, nat_le, is_ok, Option, Some, None, Ok, unwrap_or}
use Rattle.std.proofs.Math.Nat.{div-lt_iff_lt-mul}
use Rattle.std.proofs.lemmas.Bool.{leb-true}
use Rattle.connectionless.specs.declared.cutting.TheConstants.{SEGMENT_ROOM}
use Rattle.relay_base.specs.declared.limits.TheConstants.{LONGEST_GIVEN_ADDRESS, LONGEST_GIVEN_UNIT}
use Rattle.relay_base.specs.declared.words.Request.{Request}
use Rattle.relay_base.specs.declared.words.Request.TheVariants.{Unit as UnitRequest}
use Rattle.sccp_address.specs.Form.{Form}
use Rattle.sccp_address.specs.Parsing.{address_of}
use Rattle.sccp_address.specs.Subsystems.{subsystem_address}
use Rattle.plant_core.specs.Plant.{RoutingData}
use Rattle.plant_core.specs.Routing.{route_of}
use Rattle.plant_core.specs.Rewriting.{called_onward}
use Rattle.plant_core.specs.declared.answer.Answer.TheVariants.{Forward}
use Rattle.plant_core.specs.declared.answer.Origin.TheVariants.{User as FromUser}
use Rattle.plant_core.specs.declared.answer.Rewrite.{Rewrite}
use Rattle.plant_core.specs.declared.answer.Rewrite.TheVariants.{Keep, Set}
use Rattle.plant_core.proofs.AddressLengths.{length-called_kept}
use Rattle.connectionless.specs.Given.{Given, given_of, given_in, is_unit_request, is_address, is_optional_address, outgoing}
use Rattle.unit_law.specs.SegmentLaw.{IsWithinFifteen, least_size, most_segments}
use Rattle.unit_law.proofs.Translated.{translated-few}

-- what is known of a unit that a user may give
pub record IsGiven (g : Given) : Type 0 where
  pub called : length g.called ≤ LONGEST_GIVEN_ADDRESS
  pub calling : length g.calling ≤ LONGEST_GIVEN_ADDRESS
  pub body : length g.body ≤ LONGEST_GIVEN_UNIT

address-short : (octets : List ℕ) → is_address octets ≡ true → length octets ≤ LONGEST_GIVEN_ADDRESS
address-short octets = by_tests (nat_le (length octets) LONGEST_GIVEN_ADDRESS) (is_ok (address_of octets)) refl
  where
    by_tests : (few reads : Bool) → nat_le (length octets) LONGEST_GIVEN_ADDRESS ≡ few → (few && reads) ≡ true → length octets ≤ LONGEST_GIVEN_ADDRESS
    by_tests true reads e both = leb-true (length octets) LONGEST_GIVEN_ADDRESS e
    by_tests false reads e both = cc

calling-short : (ssn : ℕ) (calling : Option (List ℕ)) → is_optional_address calling ≡ true → length (unwrap_or calling (subsystem_address ssn)) ≤ LONGEST_GIVEN_ADDRESS
calling-short ssn None e = omega arith
calling-short ssn (Some octets) e = address-short octets e

all-of : (a b c d : Bool) → (a && b && c && d) ≡ true → (b ≡ true) × (c ≡ true) × (d ≡ true)
all-of true true true true e = (refl, refl, refl)
all-of true true true false e = cc
all-of true true false d e = cc
all-of true false c d e = cc
all-of false b c d e = cc

given-few : (ssn : ℕ) (request : Request) (g : Given) → given_of ssn request ≡ Some g → IsGiven g
unfolding given_of
given-few ssn request g e = by_test (is_unit_request request) refl e
  where
    by_request : (r : Request) → is_unit_request r ≡ true → given_in ssn r ≡ Some g → IsGiven g
    by_request (UnitRequest sls class ret called calling body) ranges is =
        let parts = all-of (nat_le class 1) (is_address called) (is_optional_address calling) (nat_le (length body) LONGEST_GIVEN_UNIT) ranges in
        let same : record { ssn = ssn; sls = sls; class = class; ret = ret; called = called; calling = unwrap_or calling (subsystem_address ssn); body = body } ≡ g = cc in
        subst IsGiven same (record { called = address-short called parts.0; calling = calling-short ssn calling parts.1; body = leb-true (length body) LONGEST_GIVEN_UNIT parts.2 })
    by_request _ ranges is = cc

    by_test : (test : Bool) → is_unit_request request ≡ test → (if test then given_in ssn request else None) ≡ Some g → IsGiven g
    by_test true ranges is = by_request request ranges is
    by_test false ranges is = cc

called-few : (routing : RoutingData) (octets : List ℕ) (a : Form) (point : ℕ) (rewrite : Rewrite) (hop : Option ℕ)
    → address_of octets ≡ Ok a → route_of routing a None FromUser ≡ Forward point rewrite hop → length octets ≤ LONGEST_GIVEN_ADDRESS → length (called_onward rewrite octets) ≤ LONGEST_GIVEN_ADDRESS
called-few routing octets a point Keep hop reads goes few = omega (arith, length-called_kept octets)
called-few routing octets a point (Set ssn on_ssn) hop reads goes few = omega (arith, translated-few routing octets a None hop FromUser point ssn on_ssn reads goes)

pub units-few : (routing : RoutingData) (ssn : ℕ) (request : Request) (g : Given) (a : Form) (point reference : ℕ) (rewrite : Rewrite) (hop : Option ℕ)
    → given_of ssn request ≡ Some g → address_of g.called ≡ Ok a → route_of routing a None FromUser ≡ Forward point rewrite hop
    → IsWithinFifteen (outgoing g point rewrite reference)
units-few routing ssn request g a point reference rewrite hop given reads goes =
    let few = given-few ssn request g given in
    let called : length (called_onward rewrite g.called) ≤ LONGEST_GIVEN_ADDRESS = called-few routing g.called a point rewrite hop reads goes few.called in
    let size : least_size ≤ SEGMENT_ROOM - length (called_onward rewrite g.called) - length g.calling = omega (arith, few.calling) in
    record {
      addresses = omega (arith, few.calling);
      size = omega (arith, size);
      count = counted (length g.body) (SEGMENT_ROOM - length (called_onward rewrite g.called) - length g.calling - 0) few.body (omega (arith, size));
    }
  where
    counted : (n s : ℕ) → n ≤ LONGEST_GIVEN_UNIT → least_size ≤ s → (n + s - 1) / s ≤ most_segments
    counted n s few large =
        let below : (n + s - 1) / s < most_segments + 1 = (div-lt_iff_lt-mul {k = s} {x = n + s - 1} {y = most_segments + 1} (omega arith)).1 (omega arith) in
        omega arith
