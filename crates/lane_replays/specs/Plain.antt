-- Lanes whose events are no changes of routing data: what they were told, what they do with an event, and what they have to do in an audit.
use Rattle.std.specs.Prelude.{◌≡◌, ℕ, List, [], ◌∷◌, ◌++◌, Option}
use Rattle.relay_base.specs.declared.words.Event.{Event}
use Rattle.relay_base.specs.declared.words.Output.{Output}
use Rattle.relay_base.specs.declared.words.Stamp.{Stamp}
use Rattle.plant_core.specs.Asking.{Question, asked_at}
use Rattle.plant_core.specs.Plant.{PlantState}
use Rattle.plant_core.specs.declared.answer.Answer.{Answer}
use Rattle.plant_core.specs.declared.entry.ControlEntry.{ControlEntry}
use Rattle.plant_core.specs.declared.entry.Entry.{Entry}
use Rattle.plant_core.specs.declared.terms.LaneHead.{LaneHead}
use Rattle.section_model.specs.Journals.{lane_of}
use Rattle.section_model.specs.Lane.{legal_outputs}
use Rattle.section_model.specs.Laws.{openings_from}
use Rattle.data_lane.specs.Legal.{at_first, state_after, step_of}
use Rattle.node_head.specs.declared.head.Head.{Head}
use Rattle.capture_form.specs.Events.{Stamped}
use Rattle.right_book.specs.Heads.{lane_head_of}
use Rattle.right_book.specs.Lanes.{LaneKind}
use Rattle.journal_finding.specs.Entries.{LaneRules}
use Rattle.journal_finding.specs.Lanes.{rules_of}
use Rattle.lane_events.specs.declared.placing.Lane.{Lane}
use Rattle.lane_events.specs.Placing.{is_in}

-- what an event asks of routing, in a lane that was told this
abbrev pub Questions : Type 0
Questions = LaneHead → Event → Option Question

-- what comes of an event with its answer after these entries, in the lane of a number that was told this
abbrev pub Outcomes : Type 0
Outcomes = LaneHead → ℕ → List Entry → Event → Option Answer → List Output

abbrev pub conn_outcomes : Outcomes
conn_outcomes told number journal event answer =
    let lane = lane_of told number in legal_outputs lane (openings_from lane [] journal) event answer

abbrev pub data_outcomes : Outcomes
data_outcomes told number journal event answer =
    (step_of told number (state_after told number at_first journal) event answer).outs

-- what such a lane was told, its number and its journal
pub record PlainLaneState : Type 0 where
  pub told : LaneHead
  pub number : ℕ
  pub journal : List Entry

-- an event was taken with these routing data: the journal has one entry more
pub record TakesEvent (question : Questions) (plant : PlantState) (stamp : Stamp) (event : Event) (old new : PlainLaneState) : Type 0 where
  pub entry : Entry
  pub journal : new.journal ≡ old.journal ++ entry ∷ []
  pub stamped : entry.stamp ≡ stamp
  pub of_event : entry.event ≡ event
  pub routed : entry.asked ≡ asked_at plant.edition plant.routing (question old.told event)
  pub told : new.told ≡ old.told
  pub number : new.number ≡ old.number

-- what takes the events of a capture again: its head and its phases, the control journal, the number of the lane, and the entries so far
pub record PlainState : Type 0 where
  pub head : Head
  pub phases : List (List Stamped)
  pub control : List ControlEntry
  pub number : ℕ
  pub journal : List Entry

-- the lane of this number, which was told what a lane is told of this head
pub record IsTold (head : Head) (n : ℕ) (lane : PlainLaneState) : Type 0 where
  pub told : lane.told ≡ lane_head_of head
  pub number : lane.number ≡ n

-- the lanes of a kind, by their names and what an event asks in them
abbrev pub kind_of : (ℕ → Lane) → (Event → Option Question) → LaneKind
kind_of named asks = record { is_in = λ number. is_in (named number); question = asks }

-- what the lane has to do: its events are those of the phases that are placed in it, and its routings name editions that the control lane published
abbrev pub plain_rules : (ℕ → Lane) → Questions → Outcomes → PlainState → LaneRules Event Entry
plain_rules named question outs s =
    let told = lane_head_of s.head in rules_of (kind_of named (question told)) (outs told s.number) s.number s.head s.phases s.control
