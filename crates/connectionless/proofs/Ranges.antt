-- The units that a user gives may be written.
use Rattle.std.proofs.Common.{◌≡◌, ℕ, ◌+◌, ◌≤◌, List, [], ◌∷◌, length, Bool, true, false, refl, sym, subst, arith, take, drop, length-take, length-append}
use Rattle.std.specs.Prelude.{◌&&◌, not, nat_le, IsTrue, Option, Some, None}
use Rattle.std.proofs.lemmas.Bool.{leb-true}
use Rattle.std.proofs.lemmas.Bool.Decides.{nat_tests}
use Rattle.connectionless.specs.declared.cutting.TheConstants.{SEGMENT_ROOM}
use Rattle.relay_base.specs.declared.limits.TheConstants.{LONGEST_GIVEN_ADDRESS, LONGEST_GIVEN_UNIT, LONGEST_PARAMETER}
use Rattle.plant_core.specs.Rewriting.{called_onward}
use Rattle.connectionless.specs.Cutting.{importance_size}
use Rattle.connectionless.specs.Given.{Given, Outgoing, is_cut}
use Rattle.connectionless.specs.Inner.Units.{IsInRange, IsShort}
use Rattle.plant_core.proofs.AddressLengths.{length-called_onward}
use Rattle.plant_core.specs.declared.answer.Rewrite.{Rewrite}
use Rattle.q713_shape.specs.Writing.{are_in_range}
use Rattle.q713_codec.specs.Writing.{is_in_range}
use Rattle.q713_codec.specs.declared.longest.TheConstants.{LONGEST}
use Rattle.q713_codec.specs.declared.message.Message.TheVariants.{Udt, Xudt}

pub segment-in_range : (first hop : ℕ) (called calling body segmentation : List ℕ) (importance : Option ℕ) → length called + length calling + length body + importance_size importance ≤ SEGMENT_ROOM → length segmentation ≡ 4
    → IsTrue (is_in_range (Xudt first hop called calling body (Some segmentation) importance))
unfolding is_in_range are_in_range
segment-in_range first hop called calling body segmentation None few four =
    grind (arith, nat_tests, length-append {A = ℕ})
segment-in_range first hop called calling body segmentation (Some level) few four =
    grind (arith, nat_tests, length-append {A = ℕ})

pub whole-in_range : (first : ℕ) (called calling body : List ℕ) → length called + length calling ≤ 252 → length body ≤ LONGEST_PARAMETER
    → IsTrue (is_in_range (Udt first called calling body))
unfolding is_in_range are_in_range
whole-in_range first called calling body few short = grind (arith, nat_tests)

pub status-in_range : (ssn low high : ℕ) → IsTrue (is_in_range (Udt 0 (0x42 ∷ 0x01 ∷ []) (0x42 ∷ 0x01 ∷ []) (0x02 ∷ ssn ∷ low ∷ high ∷ 0x00 ∷ [])))
unfolding is_in_range are_in_range
status-in_range ssn low high = refl

-- what one UDT holds is short
uncut : (short few : Bool) → not (short && few) ≡ false → short ≡ true
uncut true few e = refl
uncut false few e = cc

pub uncut-body : (u : Outgoing) → is_cut u ≡ false → length u.given.body ≤ LONGEST_PARAMETER
uncut-body u e =
    leb-true (length u.given.body) LONGEST_PARAMETER
    (uncut (nat_le (length u.given.body) LONGEST_PARAMETER) (nat_le (8 + length u.called + length u.given.calling + length u.given.body) LONGEST) e)

-- a part of the data
pub length-part : (size start : ℕ) (body part : List ℕ) → part ≡ take size (drop start body) → length part ≤ size
length-part size start body part e = rw e (omega (arith, length-take size (drop start body)))

-- a unit in its ranges goes on with at most one octet more
pub short : (g : Given) (rewrite : Rewrite) (u : Outgoing) → IsInRange g → u.given ≡ g → u.called ≡ called_onward rewrite g.called → IsShort u
short g rewrite u range of_unit e =
    let class : u.given.class ≤ 1 = subst (λ (x : Given). x.class ≤ 1) (sym of_unit) range.class in
    let body : length u.given.body ≤ LONGEST_GIVEN_UNIT = subst (λ (x : Given). length x.body ≤ LONGEST_GIVEN_UNIT) (sym of_unit) range.body_size in
    let calling : length u.given.calling ≤ LONGEST_GIVEN_ADDRESS = subst (λ (x : Given). length x.calling ≤ LONGEST_GIVEN_ADDRESS) (sym of_unit) range.calling_size in
    record {
      class = class;
      addresses = rw e (omega (arith, range.called_size, calling, length-called_onward rewrite g.called));
      body_size = body;
    }
