-- What a section sends for a unit is read as that unit.
use Rattle.std.proofs.Common.{◌≡◌, ◌≢◌, ℕ, suc, ◌+◌, ◌*◌, ◌%◌, ◌<◌, Bool, true, false, List, [], ◌∷◌, ◌++◌, if◌then◌else◌, refl, ap, arith}
use Rattle.std.proofs.lemmas.Bool.{eq-eqb, ne_eqb}
use Rattle.std.proofs.lemmas.Grind.{flat_map-append}
use Rattle.relay_base.specs.declared.limits.TheConstants.{REFERENCES}
use Rattle.relay_base.specs.declared.words.Output.{Output}
use Rattle.q713_codec.specs.Names.{Message}
use Rattle.q713_codec.specs.Types.{HasTypes}
use Rattle.q713_codec.specs.Writing.{spelling_of, InRange}
use Rattle.q713_codec.proofs.ReadBack.{reads_back}
use Rattle.section_model.specs.Ends.{DataUnit, SectionHead}
use Rattle.section_model.specs.Lengths.{IsUnitData, UnitsWithin}
use Rattle.section_model.specs.Parameters.{more_in, arrival_of, arrival_by, arrival_in}
use Rattle.section_model.specs.Line.{sent_on}
use Rattle.section_model.specs.Windowed.{sequence, numbered}
use Rattle.section_model.proofs.InRanges.{writes_within}
use Rattle.hop_law.specs.Units.{unit_in, units_for, units_from, units_on}
use Rattle.hop_law.specs.CarriedLaw.{dt1_of, dt2_of, all_as_dt1, IsRead, UnitsAreRead}

-- what arrives is what was written
arrives : (message : Message) → HasTypes message → InRange message → arrival_in (spelling_of message) ≡ arrival_of message
unfolding arrival_in
arrives message types range = ap arrival_by (reads_back message types range)

-- M in its octet
alone : (more : Bool) → more_in (if more then 1 else 0) ≡ more
alone true = refl
alone false = refl

beside : (n : ℕ) (more : Bool) → more_in (sequence n + (if more then 1 else 0)) ≡ more
beside n true = rw (odd n) refl
  where
    odd : (n : ℕ) → (2 * (n % 128) + 1) % 2 ≡ 1
    odd n = omega arith
beside n false = rw (even n) refl
  where
    even : (n : ℕ) → (2 * (n % 128) + 0) % 2 ≡ 0
    even n = omega arith

dt1_read : (x : SectionHead) (u : DataUnit) → x.other < REFERENCES → IsUnitData u.body → IsRead x u (dt1_of x u)
unfolding unit_in units_for arrival_of
dt1_read x u fits within =
    let e = arrives (dt1_of x u) ((fits, tt), refl) (writes_within.dt1 x.other (if u.more then 1 else 0) u.body within) in record {
      unit = rw (e, alone u.more) refl;
      reference = rw (e, alone u.more, eq-eqb x.other x.other refl) refl;
    }

dt2_read : (x : SectionHead) (ps pr : ℕ) (u : DataUnit) → x.other < REFERENCES → IsUnitData u.body → IsRead x u (dt2_of x ps pr u)
unfolding unit_in units_for arrival_of
dt2_read x ps pr u fits within =
    let e = arrives (dt2_of x ps pr u) ((fits, tt), refl) (writes_within.dt2 x.other (sequence ps ∷ (sequence pr + (if u.more then 1 else 0)) ∷ []) u.body within) in record {
      unit = rw (e, beside pr u.more) refl;
      reference = rw (e, beside pr u.more, eq-eqb x.other x.other refl) refl;
    }

-- an output on a section
sent_from : (x : SectionHead) (u : DataUnit) (message : Message) → IsRead x u message → units_from x (sent_on x message) ≡ u ∷ []
sent_from x u message r = rw (eq-eqb x.point x.point refl, eq-eqb x.sls x.sls refl) r.reference

other_from : (x y : SectionHead) (message : Message) → y.point ≢ x.point → units_from x (sent_on y message) ≡ []
other_from x y message other = rw (ne_eqb y.point x.point other) refl

dt1_all : (x : SectionHead) (units : List DataUnit) → x.other < REFERENCES → UnitsWithin units → units_on x (all_as_dt1 x units) ≡ units
unfolding units_on
dt1_all x [] fits within = refl
dt1_all x (u ∷ units) fits within = rw (sent_from x u (dt1_of x u) (dt1_read x u fits within.0), dt1_all x units fits within.1) refl

dt2_all : (x : SectionHead) (ps pr : ℕ) (units : List DataUnit) → x.other < REFERENCES → UnitsWithin units → units_on x (numbered x ps pr units) ≡ units
unfolding units_on
dt2_all x ps pr [] fits within = refl
dt2_all x ps pr (u ∷ units) fits within =
    rw (sent_from x u (dt2_of x ps pr u) (dt2_read x ps pr u fits within.0), dt2_all x (suc ps) pr units fits within.1) refl

dt1_other : (x y : SectionHead) (units : List DataUnit) → y.point ≢ x.point → units_on x (all_as_dt1 y units) ≡ []
unfolding units_on
dt1_other x y [] other = refl
dt1_other x y (u ∷ units) other = rw (other_from x y (dt1_of y u) other, dt1_other x y units other) refl

dt2_other : (x y : SectionHead) (ps pr : ℕ) (units : List DataUnit) → y.point ≢ x.point → units_on x (numbered y ps pr units) ≡ []
unfolding units_on
dt2_other x y ps pr [] other = refl
dt2_other x y ps pr (u ∷ units) other = rw (other_from x y (dt2_of y ps pr u) other, dt2_other x y (suc ps) pr units other) refl

pub joined_on : (x : SectionHead) (one other : List Output) → units_on x (one ++ other) ≡ units_on x one ++ units_on x other
unfolding units_on
joined_on x one other = flat_map-append (units_from x) one other

pub units_are_read : UnitsAreRead
units_are_read = record {
  of_dt1 = dt1_read;
  of_dt2 = dt2_read;
  all_dt1 = dt1_all;
  all_dt2 = dt2_all;
  other_dt1 = dt1_other;
  other_dt2 = dt2_other;
  joined = joined_on;
}
