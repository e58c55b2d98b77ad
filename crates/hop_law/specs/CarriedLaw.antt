-- The law of the units that messages carry (Q.713, 3.7 and 3.9): what a section sends for a unit is read as that unit.
use Rattle.std.specs.Prelude.{◌≡◌, ◌≢◌, ℕ, ◌+◌, ◌<◌, List, [], ◌∷◌, ◌++◌, map, if◌then◌else◌, Some}
use Rattle.relay_base.specs.declared.limits.TheConstants.{REFERENCES}
use Rattle.relay_base.specs.declared.words.Output.{Output}
use Rattle.q713_codec.specs.Names.{Message}
use Rattle.q713_codec.specs.declared.message.Message.TheVariants.{Dt1, Dt2}
use Rattle.q713_codec.specs.Writing.{spelling_of}
use Rattle.section_model.specs.Ends.{DataUnit, SectionHead}
use Rattle.section_model.specs.Lengths.{IsUnitData, UnitsWithin}
use Rattle.section_model.specs.Line.{sent_on}
use Rattle.section_model.specs.Windowed.{sequence, numbered}
use Rattle.hop_law.specs.Units.{unit_in, units_for, units_on}

-- the DT1 of class 2, and the DT2 of class 3, that a section sends for a unit
abbrev pub dt1_of : SectionHead → DataUnit → Message
dt1_of x u = Dt1 x.other (if u.more then 1 else 0) u.body

abbrev pub dt2_of : SectionHead → ℕ → ℕ → DataUnit → Message
dt2_of x ps pr u = Dt2 x.other (sequence ps ∷ (sequence pr + (if u.more then 1 else 0)) ∷ []) u.body

-- units as DT1 on a section
abbrev pub all_as_dt1 : SectionHead → List DataUnit → List Output
all_as_dt1 x units = map (λ u. sent_on x (dt1_of x u)) units

-- a unit of 1 to 255 octets, on a section whose other end has a reference of 24 bits
pub record IsRead (x : SectionHead) (u : DataUnit) (message : Message) : Type 0 where
  pub unit : unit_in (spelling_of message) ≡ Some u
  pub reference : units_for x.other (spelling_of message) ≡ u ∷ []

pub record UnitsAreRead : Type 0 where
  pub of_dt1 : (x : SectionHead) (u : DataUnit) → x.other < REFERENCES → IsUnitData u.body → IsRead x u (dt1_of x u)
  pub of_dt2 : (x : SectionHead) (ps pr : ℕ) (u : DataUnit) → x.other < REFERENCES → IsUnitData u.body → IsRead x u (dt2_of x ps pr u)
  -- those that leave on a section are those that it sends
  pub all_dt1 : (x : SectionHead) (units : List DataUnit) → x.other < REFERENCES → UnitsWithin units → units_on x (all_as_dt1 x units) ≡ units
  pub all_dt2 :
      (x : SectionHead) (ps pr : ℕ) (units : List DataUnit) → x.other < REFERENCES → UnitsWithin units → units_on x (numbered x ps pr units) ≡ units
  -- and on a section to another point none of these leaves
  pub other_dt1 : (x y : SectionHead) (units : List DataUnit) → y.point ≢ x.point → units_on x (all_as_dt1 y units) ≡ []
  pub other_dt2 : (x y : SectionHead) (ps pr : ℕ) (units : List DataUnit) → y.point ≢ x.point → units_on x (numbered y ps pr units) ≡ []
  -- one output after another
  pub joined : (x : SectionHead) (one other : List Output) → units_on x (one ++ other) ≡ units_on x one ++ units_on x other
