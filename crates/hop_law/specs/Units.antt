-- The units of data among messages and outputs: each is in a DT1 (Q.713, 4.7) or in a DT2 (4.8).
use Rattle.std.specs.Prelude.{ℕ, ◌==◌, ◌&&◌, Bool, true, false, List, [], ◌∷◌, if◌then◌else◌, Option, Some, None}
use Rattle.std.specs.List.{flat_map}
use Rattle.relay_base.specs.declared.words.Output.{Output}
use Rattle.relay_base.specs.declared.words.Output.TheVariants.{Sent}
use Rattle.section_model.specs.declared.cell.Occasion.{Occasion}
use Rattle.section_model.specs.declared.cell.Occasion.TheVariants as on
use Rattle.section_model.specs.Parameters.{Arrival, arrival_in}
use Rattle.section_model.specs.Ends.{DataUnit, SectionHead}

abbrev pub carries : Occasion → Bool
carries on.Dt1 = true
carries on.Dt2 = true
carries _ = false

-- whether more of its text follows, and its data
abbrev pub unit_of : Arrival → DataUnit
unit_of a = record { more = a.parameters.more; body = a.parameters.data_octets }

abbrev pub unit_by : Option Arrival → Option DataUnit
unit_by None = None
unit_by (Some a) = if carries a.occasion then Some (unit_of a) else None

-- the unit that octets carry: that of a DT1 or of a DT2, and none where they are another message, or none
unfoldable pub unit_in : List ℕ → Option DataUnit
unit_in bytes = unit_by (arrival_in bytes)

-- the units for a local reference that octets carry: one, or none
abbrev pub units_by : ℕ → Option Arrival → List DataUnit
units_by reference None = []
units_by reference (Some a) = if carries a.occasion && a.parameters.dlr == reference then unit_of a ∷ [] else []

unfoldable pub units_for : ℕ → List ℕ → List DataUnit
units_for reference bytes = units_by reference (arrival_in bytes)

-- those that leave on a section: to its point, with its link selection, for the reference of its other end
abbrev pub units_from : SectionHead → Output → List DataUnit
units_from x (Sent point sls bytes) = if point == x.point && sls == x.sls then units_for x.other bytes else []
units_from x _ = []

unfoldable pub units_on : SectionHead → List Output → List DataUnit
units_on x outs = flat_map (units_from x) outs
