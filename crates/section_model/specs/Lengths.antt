-- How many octets the addresses and the data of a connection's messages have (Q.713).
use Rattle.std.specs.Prelude.{◌-◌, ◌≡◌, ℕ, ◌≤◌, List, [], ◌∷◌, length, Option, Some, None, Ok}
use Rattle.q713_codec.specs.Names.{Message}
use Rattle.q713_codec.specs.declared.message.Message.TheVariants.{Cr, Cc, Cref, Rlsd, Rlc, Dt1, Dt2, Ak, Ed, Ea, Rsr, Rsc, Err as Error, It}
use Rattle.q713_codec.specs.Reading.{reading_of}
use Rattle.section_model.specs.declared.cell.Occasion.{Occasion}
use Rattle.section_model.specs.declared.cell.Occasion.TheVariants as on
use Rattle.section_model.specs.declared.hand.Hand.{Hand}
use Rattle.section_model.specs.declared.hand.Hand.TheVariants as hand
use Rattle.section_model.specs.declared.hand.Acted.{Acted}
use Rattle.section_model.specs.declared.hand.KeptRelease.{KeptRelease}
use Rattle.section_model.specs.declared.input.Input.{Input}
use Rattle.section_model.specs.declared.input.Input.TheVariants as input
use Rattle.relay_base.specs.declared.limits.TheConstants.{LONGEST_DATA, LONGEST_EXPEDITED}
use Rattle.section_model.specs.declared.limits.TheConstants.{LONGEST_ADDRESS, LONGEST_UNIT}
use Rattle.section_model.specs.Parameters.{Arrival, arrival_in}
use Rattle.section_model.specs.Ends.{DataUnit}
use Rattle.section_flow.specs.Windows.{Windows}
use Rattle.q713_codec.specs.Writing.{InRange}

-- at least so many octets, and at most so many
abbrev pub IsWithin : ℕ → ℕ → List ℕ → Type 0
IsWithin least most octets = (least ≤ length octets) × (length octets ≤ most)

-- an optional address, and optional data, where they are there
abbrev pub IsAddress : Option (List ℕ) → Type 0
IsAddress None = Unit {0}
IsAddress (Some octets) = length octets ≤ LONGEST_ADDRESS

abbrev pub IsData : Option (List ℕ) → Type 0
IsData None = Unit {0}
IsData (Some octets) = IsWithin 1 LONGEST_DATA octets

-- a unit of data, and expedited data
abbrev pub IsUnitData : List ℕ → Type 0
IsUnitData octets = IsWithin 1 LONGEST_UNIT octets

abbrev pub IsExpeditedData : List ℕ → Type 0
IsExpeditedData octets = IsWithin 1 LONGEST_EXPEDITED octets

-- the data of a message that carries a unit, and of one that carries expedited data
abbrev pub IsDataOf : Occasion → List ℕ → Type 0
IsDataOf on.Dt1 octets = IsUnitData octets
IsDataOf on.Dt2 octets = IsUnitData octets
IsDataOf on.Ed octets = IsExpeditedData octets
IsDataOf _ octets = Unit {0}

-- the addresses and the data of a connection's message have lengths that Q.713 allows
abbrev pub HasLengths : Message → Type 0
HasLengths (Cr slr class called credit calling body hop importance) = (length called ≤ LONGEST_ADDRESS) × IsAddress calling × IsData body
HasLengths (Cc dlr slr class credit called body importance) = IsAddress called × IsData body
HasLengths (Cref dlr cause called body importance) = IsAddress called × IsData body
HasLengths (Rlsd dlr slr cause body importance) = IsData body
HasLengths (Dt1 dlr segmenting body) = IsUnitData body
HasLengths (Dt2 dlr sequencing body) = IsUnitData body
HasLengths (Ed dlr body) = IsExpeditedData body
HasLengths _ = Unit {0}

-- the same of what an end hands to the other, of what is kept for a repeated release, and of what a message brings
abbrev pub HandWithin : Hand → Type 0
HandWithin (hand.Accept class credit called body importance) = IsAddress called × IsData body
HandWithin (hand.Refuse cause called body importance) = IsAddress called × IsData body
HandWithin (hand.End cause body importance) = IsData body
HandWithin (hand.Unit more body) = IsUnitData body
HandWithin (hand.Expedited body) = IsExpeditedData body
HandWithin _ = Unit {0}

abbrev pub HandsWithin : List Hand → Type 0
HandsWithin [] = Unit {0}
HandsWithin (h ∷ hands) = HandWithin h × HandsWithin hands

abbrev pub ActedWithin : Acted → Type 0
ActedWithin acted = HandsWithin acted.first × HandsWithin acted.then

abbrev pub KeptWithin : KeptRelease → Type 0
KeptWithin kept = IsData kept.body

-- the same of units that wait, and of expedited data that wait
abbrev pub UnitsWithin : List DataUnit → Type 0
UnitsWithin [] = Unit {0}
UnitsWithin (u ∷ units) = IsUnitData u.body × UnitsWithin units

abbrev pub ExpeditedWithin : Option (List ℕ) → Type 0
ExpeditedWithin None = Unit {0}
ExpeditedWithin (Some body) = IsExpeditedData body

abbrev pub WindowsWithin : Windows → Type 0
WindowsWithin w = UnitsWithin w.waits × ExpeditedWithin w.waiting

abbrev pub ArrivalWithin : Arrival → Type 0
ArrivalWithin a = IsAddress a.parameters.called × IsData a.parameters.body × IsDataOf a.occasion a.parameters.data_octets

abbrev pub InputWithin : Input → Type 0
InputWithin (input.Hand h) = HandWithin h.now
InputWithin _ = Unit {0}

-- Laws.

-- what is read has the lengths of Q.713
abbrev pub ReadsWithin : Type 0
ReadsWithin = (b : List ℕ) (m : Message) → reading_of b ≡ Ok m → HasLengths m

abbrev pub ArrivesWithin : Type 0
ArrivesWithin = (b : List ℕ) (a : Arrival) → arrival_in b ≡ Some a → ArrivalWithin a

-- What has these lengths may be written. In a CR the pointer of the optional part skips the called address too, which leaves
-- two octets less for that.
pub record WritesWithin : Type 0 where
  pub cr : (slr class : ℕ) (called : List ℕ) (credit : Option ℕ) (calling body : Option (List ℕ)) (hop importance : Option ℕ) → length called ≤ LONGEST_ADDRESS - 2 → IsAddress calling → IsData body → InRange (Cr slr class called credit calling body hop importance)
  pub cc : (dlr slr class : ℕ) (credit : Option ℕ) (called body : Option (List ℕ)) (importance : Option ℕ) → IsAddress called → IsData body → InRange (Cc dlr slr class credit called body importance)
  pub cref : (dlr cause : ℕ) (called body : Option (List ℕ)) (importance : Option ℕ) → IsAddress called → IsData body → InRange (Cref dlr cause called body importance)
  pub rlsd : (dlr slr cause : ℕ) (body : Option (List ℕ)) (importance : Option ℕ) → IsData body → InRange (Rlsd dlr slr cause body importance)
  pub rlc : (dlr slr : ℕ) → InRange (Rlc dlr slr)
  pub dt1 : (dlr segmenting : ℕ) (body : List ℕ) → IsUnitData body → InRange (Dt1 dlr segmenting body)
  pub dt2 : (dlr : ℕ) (sequencing body : List ℕ) → IsUnitData body → InRange (Dt2 dlr sequencing body)
  pub ak : (dlr receive credit : ℕ) → InRange (Ak dlr receive credit)
  pub ed : (dlr : ℕ) (body : List ℕ) → IsExpeditedData body → InRange (Ed dlr body)
  pub ea : (dlr : ℕ) → InRange (Ea dlr)
  pub rsr : (dlr slr cause : ℕ) → InRange (Rsr dlr slr cause)
  pub rsc : (dlr slr : ℕ) → InRange (Rsc dlr slr)
  pub error : (dlr cause : ℕ) → InRange (Error dlr cause)
  pub it : (dlr slr class : ℕ) (sequencing : List ℕ) (credit : ℕ) → InRange (It dlr slr class sequencing credit)
