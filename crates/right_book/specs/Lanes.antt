-- The lanes of a kind, and what their journals have.
use Rattle.std.specs.Prelude.{ℕ, ◌+◌, Bool, List, [], ◌∷◌, Option}
use Rattle.std.specs.List.{AllByRecursion}
use Rattle.std.specs.List.Sorted.{IsNonDecreasing}
use Rattle.relay_base.specs.declared.words.Event.{Event}
use Rattle.plant_core.specs.Asking.{Question}
use Rattle.section_model.specs.Opening.{wish_of}
use Rattle.section_model.specs.Opening.{question_of as question_of_wish}
use Rattle.data_lane.specs.Legal.{question_of as question_of_unit}
use Rattle.node_head.specs.declared.head.Head.{Head}
use Rattle.plant_core.specs.declared.entry.Entry.{Entry}
use Rattle.plant_core.specs.declared.entry.ControlEntry.{ControlEntry}
use Rattle.plant_core.specs.declared.terms.LaneHead.{LaneHead}
use Rattle.capture_form.specs.declared.lane_place.LanePlace.{LanePlace}
use Rattle.capture_form.specs.Events.{Stamped}
use Rattle.right_book.specs.Own.{pairs_of}
use Rattle.right_book.specs.Placed.{in_conn, in_data, IsOfLane}
use Rattle.right_book.specs.Heads.{lane_head_of}
use Rattle.right_book.specs.Editions.{IsRouting, editions_in}

-- which places are in the lane of a number, and what an event asks of routing there
pub record LaneKind : Type 0 where
  pub is_in : ℕ → LanePlace → Bool
  pub question : Event → Option Question

abbrev pub conn_question : LaneHead → Event → Option Question
conn_question head e = question_of_wish (wish_of head.terms e)

abbrev pub conn_kind : Head → LaneKind
conn_kind head = record { is_in = in_conn; question = conn_question (lane_head_of head) }

abbrev pub data_kind : LaneKind
data_kind = record { is_in = in_data; question = question_of_unit }

-- this is said of each lane, with its number, of which the first is this one
abbrev pub LanesFrom : {A : Type 0} → (ℕ → A → Type 0) → ℕ → List A → Type 0
LanesFrom P number [] = Unit {0}
LanesFrom P number (lane ∷ more) = P number lane × LanesFrom P (number + 1) more

-- an entry has the routing that its event asks
abbrev pub IsRouted : (Event → Option Question) → Head → List ControlEntry → Entry → Type 0
IsRouted question head control entry = IsRouting head control entry.stamp.phase (question entry.event) entry.asked

-- the journal of the lane of a number has the events of the phases that are placed there, each with its routing, whose editions never fall
pub record IsServed (kind : LaneKind) (head : Head) (phases : List (List Stamped)) (control : List ControlEntry) (number : ℕ) (journal : List Entry) : Type 0 where
  pub own : IsOfLane (kind.is_in number) head phases (pairs_of journal)
  pub routed : AllByRecursion (IsRouted kind.question head control) journal
  pub rising : IsNonDecreasing (editions_in journal)
