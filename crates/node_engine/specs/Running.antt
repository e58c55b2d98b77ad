-- What the lanes of a node do with the events of a phase.
use Rattle.std.specs.Prelude.{◌≡◌, ◌≤◌, ◌<◌, ◌+◌, ◌++◌, ◌∷◌, ℕ, Bool, List, [], Option, length, map, count_by, is_some}
use Rattle.std.specs.List.{AllByRecursion}
use Rattle.std.specs.List.Sorted.{IsNonDecreasing}
use Rattle.relay_base.specs.declared.words.Event.{Event}
use Rattle.plant_core.specs.Asking.{Question}
use Rattle.plant_core.specs.declared.entry.Entry.{Entry}
use Rattle.plant_core.specs.declared.entry.ControlEntry.{ControlEntry}
use Rattle.data_lane.specs.Legal.{LaneState, IsDataJournal}
use Rattle.section_model.specs.Journals.{IsConnJournal}
use Rattle.conn_journal.specs.Lanes.{ConnLaneState}
use Rattle.node_head.specs.declared.head.Head.{Head}
use Rattle.node_head.specs.Ranges.{IsHead}
use Rattle.journal_text.specs.declared.book.Book.{Book}
use Rattle.scmg.specs.Control.{IsControlJournal}
use Rattle.node_engine.specs.declared.node.Node.{Node}
use Rattle.capture_form.specs.Events.{Stamped, AreOfLinks}
use Rattle.capture_form.specs.declared.lane_place.LanePlace.{LanePlace}
use Rattle.right_book.specs.Own.{pairs_of, control_pairs_of}
use Rattle.right_book.specs.Heads.{routing_of, lane_head_of, control_head_of}
use Rattle.right_book.specs.Placed.{in_control}
use Rattle.right_book.specs.Editions.{changes_of, editions_in}
use Rattle.right_book.specs.Lanes.{LaneKind, LanesFrom, IsRouted, conn_kind, data_kind}
use Rattle.right_book.specs.Right.{HasServed}
use Rattle.link_threads.specs.Pairs.{PairsFrom}
use Rattle.lane_seats.specs.Plans.{planned, AreWhole}

-- the journals of lanes
abbrev pub conn_journals : List ConnLaneState → List (List Entry)
conn_journals lanes = map (λ l. l.journal) lanes

abbrev pub data_journals : List LaneState → List (List Entry)
data_journals lanes = map (λ l. l.journal) lanes

-- the book of a node
abbrev pub book_of : Node → Book
book_of node = record { control = node.control.journal; conns = conn_journals node.conns.items; units = data_journals node.units.items }

-- ---- the lanes of a node

-- a lane is of this head and of this number
pub record IsConnLaneOf (head : Head) (number : ℕ) (lane : ConnLaneState) : Type 0 where
  pub of_head : lane.head ≡ lane_head_of head
  pub of_number : lane.number ≡ number

pub record IsDataLaneOf (head : Head) (number : ℕ) (lane : LaneState) : Type 0 where
  pub of_head : lane.head ≡ lane_head_of head
  pub of_number : lane.number ≡ number

-- the lanes are those of this head
pub record IsOf (head : Head) (node : Node) : Type 0 where
  pub control_head : node.control.head ≡ control_head_of head
  pub start : node.control.start ≡ routing_of head
  pub conn_lanes : length node.conns.items ≡ head.conn_lanes
  pub conns : LanesFrom (IsConnLaneOf head) 0 node.conns.items
  pub data_lanes : length node.units.items ≡ head.data_lanes
  pub units : LanesFrom (IsDataLaneOf head) 0 node.units.items

-- the lanes before the first event
pub record IsFirst (head : Head) (node : Node) : Type 0 where
  pub lanes : IsOf head node
  pub control : node.control.journal ≡ []
  pub conns : AllByRecursion (λ l. l.journal ≡ []) node.conns.items
  pub units : AllByRecursion (λ l. l.journal ≡ []) node.units.items

-- the journals of the control lane and of the connection lanes stay below 2 ^ 32 - 1 entries with so many more
pub record HasRoom (events : ℕ) (node : Node) : Type 0 where
  pub control : length node.control.journal + events < 4294967296
  pub conns : AllByRecursion (λ journal. length journal + events < 4294967296) (conn_journals node.conns.items)

-- the lanes can take the events of a capture with this head
pub record CanTake (head : Head) (events : Stamped) (node : Node) : Type 0 where
  pub stated : IsHead head
  pub lanes : IsOf head node
  pub room : HasRoom (length events) node

-- each journal is a legal one of its lane
pub record HasLegal (node : Node) : Type 0 where
  pub control : IsControlJournal node.control.head node.control.start node.control.journal
  pub conns : AllByRecursion (λ l. IsConnJournal l.head l.number l.journal) node.conns.items
  pub units : AllByRecursion (λ l. IsDataJournal l.head l.number l.journal) node.units.items

-- ---- what stands in a phase, whatever events were taken of it

-- the routings of a journal are right by a control journal, and none of its entries is of a later phase
pub record IsRightSoFar (question : Event → Option Question) (head : Head) (phase : ℕ) (control : List ControlEntry) (journal : List Entry) : Type 0 where
  pub within : AllByRecursion (λ e. e.stamp.phase ≤ phase) journal
  pub routed : AllByRecursion (IsRouted question head control) journal
  pub rising : IsNonDecreasing (editions_in journal)

-- as many entries published as there are groups of changes
abbrev pub IsCounted : Head → List ControlEntry → Type 0
IsCounted head control = count_by (λ e. is_some e.published) control ≡ length (changes_of head control)

pub record AreRightSoFar (head : Head) (phase : ℕ) (book : Book) : Type 0 where
  pub counted : IsCounted head book.control
  pub within : AllByRecursion (λ e. e.stamp.phase ≤ phase) book.control
  pub conns : AllByRecursion (IsRightSoFar (conn_kind head).question head phase book.control) book.conns
  pub units : AllByRecursion (IsRightSoFar data_kind.question head phase book.control) book.units

-- ---- a phase

-- a journal went on with the events of a phase that are placed in its lane, of each link all of them in order
pub record Took {E : Type 0} (pairs : List E → Stamped) (in_lane : LanePlace → Bool) (head : Head) (lists : List Stamped) (old new : List E) : Type 0 where
  pub entries : List E
  pub journal : new ≡ old ++ entries
  pub own : AreWhole (planned in_lane head lists) (pairs entries)

abbrev pub LaneTook : LaneKind → Head → List Stamped → ℕ → List Entry → List Entry → Type 0
LaneTook kind head lists number old new = Took pairs_of (kind.is_in number) head lists old new

-- each lane went on with its events of a phase
pub record Went (head : Head) (lists : List Stamped) (old new : Node) : Type 0 where
  pub lanes : IsOf head new
  pub control : Took control_pairs_of in_control head lists old.control.journal new.control.journal
  pub conns : PairsFrom (LaneTook (conn_kind head) head lists) 0 (conn_journals old.conns.items) (conn_journals new.conns.items)
  pub units : PairsFrom (LaneTook data_kind head lists) 0 (data_journals old.units.items) (data_journals new.units.items)
  pub standing : (phase : ℕ) → AreOfLinks phase 0 lists → AreRightSoFar head phase (book_of old) → AreRightSoFar head phase (book_of new)

-- where the journals had the events of the phases before this one, each with the routing that it asks, they have those of this phase too
abbrev pub ServesNext : Head → List Stamped → Node → Node → Type 0
ServesNext head lists old new =
    (before : List (List Stamped)) → AreOfLinks (length before + 1) 0 lists → HasServed head before (book_of old) → HasServed head (before ++ lists ∷ []) (book_of new)
