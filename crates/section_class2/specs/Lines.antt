-- A connection section as the code holds it.
use Rattle.std.specs.Prelude.{◌≡◌, ℕ, Option, Some, None, IfSome}
use Rattle.section_model.specs.declared.cell.Cell.{Cell}
use Rattle.section_model.specs.Views.{section_of}
use Rattle.section_model.specs.declared.cell.Cell.TheVariants as cell
use Rattle.section_model.specs.declared.cell.Occasion.TheVariants as on
use Rattle.section_model.specs.declared.hand.Acted.{Acted}
use Rattle.section_model.specs.declared.input.Input.{Input}
use Rattle.section_model.specs.declared.input.Input.TheVariants as input
use Rattle.section_model.specs.declared.wire.WireHead.{WireHead}
use Rattle.relay_base.specs.declared.words.Event.{Event}
use Rattle.relay_base.specs.declared.words.Event.TheVariants.{Message as Arrived, Asked as Requested, Tick}
use Rattle.section_model.specs.Ends.{Line as SectionLine, no_effect}
use Rattle.section_model.specs.Parameters.{Arrival, arrival_in}
use Rattle.section_model.specs.Line.{line_hears, line_fires, line_takes}
use Rattle.section_class2.specs.declared.line.Line.{Line}

-- a section: its head, what it keeps beside it, and what came in
abbrev pub line_of : WireHead → Line → SectionLine
line_of wire line = record {
  head = section_of wire;
  kept = line.kept;
  got = line.came.value.got;
  passed = line.came.value.passed;
}

-- a message for a connection is DT1
abbrev pub IsDt1 : Event → Type 0
IsDt1 (Arrived point sls bytes) = IfSome (arrival_in bytes) (λ a. a.occasion ≡ on.Dt1)
IsDt1 _ = Unit {0}

-- the data that the cell takes are those of DT1, as the table of states and events has it
abbrev pub TakesDataOfDt1 : Cell → Input → Type 0
TakesDataOfDt1 c (input.Event event) = c ≡ cell.TakeData → IsDt1 event.now
TakesDataOfDt1 c _ = Unit {0}

-- What a section does upon an input, by the cell that the table has for it.

abbrev pub line_hears_arrival : Cell → ℕ → Option Arrival → SectionLine → SectionLine × Acted
line_hears_arrival c point None x = (x, no_effect)
line_hears_arrival c point (Some a) x = line_hears c point a.parameters x

abbrev pub line_hears_event : Cell → Event → SectionLine → SectionLine × Acted
line_hears_event c (Arrived point sls bytes) x = line_hears_arrival c point (arrival_in bytes) x
line_hears_event c (Requested ssn r) x = (x, no_effect)
line_hears_event c Tick x = (x, no_effect)

abbrev pub line_acts : Cell → Input → SectionLine → SectionLine × Acted
line_acts c (input.Event event) x = line_hears_event c event.now x
line_acts c (input.Timer number) x = line_fires c x
line_acts c (input.Hand h) x = line_takes c h.now x
line_acts c input.Turn x = (x, no_effect)
