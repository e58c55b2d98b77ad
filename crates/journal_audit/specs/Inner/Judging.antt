-- What the judging of a text's lanes has come to.
use Rattle.std.specs.Prelude.{◌≡◌, ℕ, ◌+◌, ◌^◌, ◌<◌, List, [], length, take, drop, Option, Some, None, Ok, Err}
use Rattle.std.specs.declared.result.Result.{Result}
use Rattle.std.specs.List.{AllByRecursion}
use Rattle.relay_base.specs.declared.words.Event.{Event}
use Rattle.plant_core.specs.declared.entry.ControlEntry.{ControlEntry}
use Rattle.plant_core.specs.declared.entry.Entry.{Entry}
use Rattle.node_head.specs.declared.head.Head.{Head}
use Rattle.node_head.specs.Ranges.{IsHead}
use Rattle.scmg.specs.Control.{IsControlJournal}
use Rattle.journal_text.specs.declared.book.Book.{Book}
use Rattle.capture_form.specs.Events.{Stamped}
use Rattle.right_book.specs.Editions.{changes_of}
use Rattle.right_book.specs.Heads.{routing_of, control_head_of}
use Rattle.journal_form.specs.Parts.{LanePart, lane_size}
use Rattle.journal_finding.specs.declared.finding.Fault.{Fault}
use Rattle.journal_finding.specs.Entries.{LaneRules, ◌>>=◌}
use Rattle.journal_finding.specs.Finding.{journals_in}
use Rattle.journal_finding.specs.Lanes.{conn_rules, data_rules}
use Rattle.lane_events.specs.declared.placing.Lane.{Lane}
use Rattle.lane_events.specs.Placing.{all_placed}
use Rattle.lane_replays.specs.Plain.{Questions, Outcomes, plain_rules}
use Rattle.control_replay.specs.Tables.{IsTable}
use Rattle.journal_audit.specs.declared.finding.Finding.{Finding}
use Rattle.journal_audit.specs.declared.finding.Finding.TheVariants.{Legal, Illegal}
use Rattle.journal_audit.specs.declared.beside.Beside.{Beside}

-- the fault of what is found, if it is one
abbrev pub fault_in : {A : Type 0} → Result A Fault → Option Fault
fault_in (Ok x) = None
fault_in (Err fault) = Some fault

-- what is told of it
abbrev pub told : Option Fault → Finding
told None = Legal
told (Some fault) = Illegal fault.line fault.kind

-- the line behind a lane has a number of a line
abbrev pub IsShort : LanePart → Type 0
IsShort lane = lane.number + lane_size lane < 2 ^ 32

abbrev pub AreShort : List LanePart → Type 0
AreShort lanes = AllByRecursion IsShort lanes

-- the book that the lanes behind the control lane write beside its journal, or the first fault
abbrev pub others_in : Head → List (List Stamped) → List ControlEntry → List LanePart → Result Book Fault
others_in head phases control lanes = do
  conns ← journals_in (conn_rules head phases control) 0 (take head.conn_lanes lanes)
  units ← journals_in (data_rules head phases control) 0 (drop head.conn_lanes lanes)
  Ok (record { control = control; conns = conns; units = units })

-- what the lanes of a kind have to do beside these
abbrev pub kind_rules : (ℕ → Lane) → Questions → Outcomes → Beside → ℕ → LaneRules Event Entry
kind_rules named question outs b number =
    plain_rules named question outs (record { head = b.capture.now.head; phases = b.capture.now.phases; control = b.control.now; number = number; journal = [] })

-- the journal of the control lane and what was published in it are those of a capture, and these are its events with their places
pub record IsBeside (b : Beside) : Type 0 where
  pub head : IsHead b.capture.now.head
  pub placed : b.placed.now ≡ all_placed b.capture.now.head b.capture.now.phases
  pub groups : b.groups.now ≡ changes_of b.capture.now.head b.control.now
  pub legal : IsControlJournal (control_head_of b.capture.now.head) (routing_of b.capture.now.head) b.control.now
  pub few : length b.control.now < 2 ^ 32
  pub table : IsTable (length b.capture.now.phases) b.control.now b.before.now
