-- The windows of a section as the code keeps them.
use Rattle.std.specs.Prelude.{◌≡◌, ℕ, IfSome, Bool, List, Option, Some, None}
use Rattle.section_model.specs.declared.cell.Cell.{Cell}
use Rattle.section_model.specs.Views.{section_of}
use Rattle.section_model.specs.declared.cell.Cell.TheVariants as cell
use Rattle.section_model.specs.declared.cell.Occasion.TheVariants as on
use Rattle.section_model.specs.declared.input.Input.{Input}
use Rattle.section_model.specs.declared.input.Input.TheVariants as input
use Rattle.section_model.specs.declared.wire.WireHead.{WireHead}
use Rattle.relay_base.specs.declared.words.Event.{Event}
use Rattle.relay_base.specs.declared.words.Event.TheVariants.{Message as Arrived, Asked as Requested, Tick}
use Rattle.section_model.specs.declared.hand.Acted.{Acted}
use Rattle.section_model.specs.Ends.{no_effect}
use Rattle.section_flow.specs.Windows.{Windows as SectionWindows}
use Rattle.section_model.specs.Parameters.{Arrival, arrival_in}
use Rattle.section_model.specs.Windowed.{Windowed, HasCome, windowed_hears, windowed_fires, windowed_takes, leaves, acknowledges}
use Rattle.section_flow.specs.declared.counts.Counts.{Counts}
use Rattle.section_flow.specs.Flow.{FlowState, windows_of}

-- the credit that was agreed on, and the windows
pub record WindowsState : Type 0 where
  pub agreed : ℕ
  pub windows : SectionWindows

-- the windows of a section by its flow control, the expedited data that wait, and whether expedited data are unanswered and owed
abbrev pub windows_state_of : FlowState → Option (List ℕ) → Bool → Bool → WindowsState
windows_state_of f waiting unanswered owed = record {
  agreed = f.agreed;
  windows = record (windows_of f) { waiting = waiting; unanswered = unanswered; owed = owed };
}

-- the counts of a section's windows
abbrev pub counts_of : SectionWindows → Counts
counts_of w = record { got = w.got; passed = w.passed; told = w.told; sent = w.sent; acked = w.acked }

abbrev pub windowed_of : WireHead → WindowsState → Windowed
windowed_of wire w = record { head = section_of wire; windows = w.windows }

-- a message for a connection is DT2, and ED
abbrev pub IsDt2 : Event → Type 0
IsDt2 (Arrived point sls bytes) = IfSome (arrival_in bytes) (λ a. a.occasion ≡ on.Dt2)
IsDt2 _ = Unit {0}

abbrev pub IsEd : Event → Type 0
IsEd (Arrived point sls bytes) = IfSome (arrival_in bytes) (λ a. a.occasion ≡ on.Ed)
IsEd _ = Unit {0}

-- the data that the cell takes are those of the message that the table of states and events has it for
abbrev pub TakesItsData : Cell → Input → Type 0
TakesItsData c (input.Event event) = (c ≡ cell.TakeNumberedData → IsDt2 event.now) × (c ≡ cell.TakeExpedited → IsEd event.now)
TakesItsData c _ = Unit {0}

-- what an effect of the other end says to have left had come in
abbrev pub InputHasCome : Input → SectionWindows → Type 0
InputHasCome (input.Hand h) w = HasCome h.now w
InputHasCome _ w = Unit {0}

-- What a section does in class 3 alone upon an input, by the cell that the table has for it.

abbrev pub windows_hear_arrival : Cell → Option Arrival → Windowed → Windowed × Acted
windows_hear_arrival c None x = (x, no_effect)
windows_hear_arrival c (Some a) x = windowed_hears c a.parameters x

abbrev pub windows_hear_event : Cell → Event → Windowed → Windowed × Acted
windows_hear_event c (Arrived point sls bytes) x = windows_hear_arrival c (arrival_in bytes) x
windows_hear_event c (Requested ssn r) x = (x, no_effect)
windows_hear_event c Tick x = (x, no_effect)

-- the two parts of what follows each event
abbrev pub windows_turn : Cell → Windowed → Windowed × Acted
windows_turn cell.Leave x = leaves x
windows_turn cell.Acknowledge x = acknowledges x
windows_turn _ x = (x, no_effect)

abbrev pub windows_act : Cell → Input → Windowed → Windowed × Acted
windows_act c (input.Event event) x = windows_hear_event c event.now x
windows_act c (input.Timer number) x = windowed_fires x
windows_act c (input.Hand h) x = windowed_takes c h.now x
windows_act c input.Turn x = windows_turn c x
