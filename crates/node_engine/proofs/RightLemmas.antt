-- The journals of a node have the events of the phases.
use Rattle.std.proofs.Common.{◌≡◌, ℕ, ◌+◌, ◌≤◌, ◌<◌, Bool, List, [], ◌∷◌, ◌++◌, length, map, get_or, Result, Ok, Err, IfOk, sym, ap, ◌∙◌, subst, arith}
use Rattle.std.proofs.lemmas.List.{length-map, map-append}
use Rattle.std.proofs.Math.ListN.{get_or-map}
use Rattle.std.specs.List.{AllByRecursion}
use Rattle.relay_base.specs.declared.words.Stamp.{Stamp}
use Rattle.plant_core.specs.declared.entry.Entry.{Entry}
use Rattle.plant_core.specs.declared.entry.ControlEntry.{ControlEntry}
use Rattle.plant_core.specs.declared.entry.ControlEvent.{ControlEvent}
use Rattle.plant_core.specs.declared.entry.ControlEvent.TheVariants.{Plain}
use Rattle.data_lane.specs.Legal.{LaneState, IsDataJournal}
use Rattle.section_model.specs.Journals.{IsConnJournal}
use Rattle.conn_journal.specs.Lanes.{ConnLaneState}
use Rattle.scmg.specs.Control.{IsControlJournal}
use Rattle.node_head.specs.declared.head.Head.{Head}
use Rattle.node_head.specs.Ranges.{IsHead}
use Rattle.capture_form.specs.Events.{Stamped, AreOfLinks}
use Rattle.capture_form.specs.declared.lane_place.LanePlace.{LanePlace}
use Rattle.journal_text.specs.declared.book.Book.{Book}
use Rattle.node_engine.specs.declared.node.Node.{Node}
use Rattle.right_book.specs.Own.{HasEventsInOrder, pairs_of, control_pairs_of}
use Rattle.right_book.specs.Heads.{lane_head_of, control_head_of}
use Rattle.right_book.specs.Placed.{in_control, taken, placed, IsOfLane}
use Rattle.right_book.specs.Lanes.{LaneKind, LanesFrom, IsServed, conn_kind, data_kind}
use Rattle.right_book.specs.Right.{HasServed, AreLegal, IsRight}
use Rattle.node_engine.specs.Running.{CanTake, IsFirst, IsConnLaneOf, IsDataLaneOf, IsOf, IsRightSoFar, IsCounted, AreRightSoFar, Took, LaneTook, Went, book_of, conn_journals, data_journals, HasLegal}
use Rattle.link_threads.specs.Pairs.{PairsFrom}
use Rattle.lane_seats.specs.Plans.{planned, AreWhole}
use Rattle.right_book.proofs.ListLemmas.{weaker, any-lanes, lanes-all, lanes-map, all-lanes, all-map, all-mapped}
use Rattle.link_threads.proofs.PairLemmas.{pairs-lanes}
use Rattle.node_engine.proofs.LinkLemmas.{whole-phase}
use Rattle.node_engine.proofs.OwnLemmas.{phases-within, more-events, no-events}

-- ---- what is placed in a lane stands as it stood

planned-placed : (in_lane : LanePlace → Bool) (head : Head) (lists : List Stamped) (link : ℕ) → planned in_lane head lists link ≡ get_or (map (taken in_lane head) lists) link []
planned-placed in_lane head lists link = sym (get_or-map (taken in_lane head) lists link [])

own-more : (in_lane : LanePlace → Bool) (head : Head) (before : List (List Stamped)) (lists : List Stamped) (old new : Stamped) → AreOfLinks (length before + 1) 0 lists → AreWhole (planned in_lane head lists) new
    → IsOfLane in_lane head before old → IsOfLane in_lane head (before ++ lists ∷ []) (old ++ new)
own-more in_lane head before lists old new h whole own =
    let count : length (placed in_lane head before) ≡ length before = length-map before (map (taken in_lane head)) in
    let at : AllByRecursion (λ e. e.0.phase ≡ length (placed in_lane head before) + 1) new =
    subst (λ n. AllByRecursion (λ e. e.0.phase ≡ n + 1) new) (sym count) (whole-phase in_lane head (length before + 1) lists new h whole) in
    subst (λ (phases : List (List Stamped)). HasEventsInOrder (old ++ new) phases) (sym (map-append (map (taken in_lane head)) before (lists ∷ [])))
    (more-events (placed in_lane head before) (map (taken in_lane head) lists) old new own at (λ link. whole link ∙ planned-placed in_lane head lists link))

-- the same of a journal that grew
own-took : {E : Type 0} (pair : E → Stamp × ControlEvent) (in_lane : LanePlace → Bool) (head : Head) (before : List (List Stamped)) (lists : List Stamped) (old new : List E) → AreOfLinks (length before + 1) 0 lists
    → Took (map pair) in_lane head lists old new → IsOfLane in_lane head before (map pair old) → IsOfLane in_lane head (before ++ lists ∷ []) (map pair new)
own-took pair in_lane head before lists old new h t own =
    subst (IsOfLane in_lane head (before ++ lists ∷ [])) (sym (ap (map pair) t.journal ∙ map-append pair old t.entries)) (own-more in_lane head before lists (map pair old) (map pair t.entries) h t.own own)

own-within : (in_lane : LanePlace → Bool) (head : Head) (phases : List (List Stamped)) (events : Stamped) → IsOfLane in_lane head phases events → AllByRecursion (λ e. e.0.phase ≤ length phases + 1) events
own-within in_lane head phases events own =
    weaker (λ e. e.0.phase ≤ length (placed in_lane head phases)) (λ e. e.0.phase ≤ length phases + 1) events
    (λ e le. omega (arith, le, length-map phases (map (taken in_lane head)))) (phases-within (placed in_lane head phases) events own)

-- ---- what stands of journals that have the events of the phases

stands-served : (kind : LaneKind) (head : Head) (phases : List (List Stamped)) (control : List ControlEntry) (k : ℕ) (journal : List Entry) → IsServed kind head phases control k journal → IsRightSoFar kind.question head (length phases + 1) control journal
stands-served kind head phases control k journal h = record {
  within = all-mapped (λ (e : Stamp × ControlEvent). e.0.phase ≤ length phases + 1) (λ (x : Entry). (x.stamp, Plain x.event)) journal (own-within (kind.is_in k) head phases (pairs_of journal) h.own);
  routed = h.routed;
  rising = h.rising;
}

standing-served : (head : Head) (phases : List (List Stamped)) (book : Book) → IsCounted head book.control → HasServed head phases book → AreRightSoFar head (length phases + 1) book
standing-served head phases book counted h = record {
  counted = counted;
  within = all-mapped (λ (e : Stamp × ControlEvent). e.0.phase ≤ length phases + 1) (λ (x : ControlEntry). (x.stamp, x.event)) book.control (own-within in_control head phases (control_pairs_of book.control) h.control);
  conns = lanes-all (IsServed (conn_kind head) head phases book.control) (IsRightSoFar (conn_kind head).question head (length phases + 1) book.control) 0 book.conns (λ k j s. stands-served (conn_kind head) head phases book.control k j s) h.conns;
  units = lanes-all (IsServed data_kind head phases book.control) (IsRightSoFar data_kind.question head (length phases + 1) book.control) 0 book.units (λ k j s. stands-served data_kind head phases book.control k j s) h.units;
}

-- ---- one phase more

lanes-served : (kind : LaneKind) (head : Head) (before : List (List Stamped)) (lists : List Stamped) (old new : List ControlEntry) (olds news : List (List Entry)) → AreOfLinks (length before + 1) 0 lists
    → PairsFrom (LaneTook kind head lists) 0 olds news → AllByRecursion (IsRightSoFar kind.question head (length before + 1) new) news
    → LanesFrom (IsServed kind head before old) 0 olds → LanesFrom (IsServed kind head (before ++ lists ∷ []) new) 0 news
lanes-served kind head before lists old new olds news h took stand served =
    all-lanes (IsRightSoFar kind.question head (length before + 1) new) (IsServed kind head (before ++ lists ∷ []) new) (λ k journal. IsOfLane (kind.is_in k) head (before ++ lists ∷ []) (pairs_of journal)) 0 news
    (λ k journal s own. record { own = own; routed = s.routed; rising = s.rising }) stand
    (pairs-lanes (IsServed kind head before old) (λ k journal. IsOfLane (kind.is_in k) head (before ++ lists ∷ []) (pairs_of journal)) (LaneTook kind head lists) 0 olds news
    (λ k a b s t. own-took (λ (x : Entry). (x.stamp, Plain x.event)) (kind.is_in k) head before lists a b h t s.own) served took)

pub served-more : (head : Head) (before : List (List Stamped)) (lists : List Stamped) (old new : Node) → IsCounted head old.control.journal → Went head lists old new → AreOfLinks (length before + 1) 0 lists
    → HasServed head before (book_of old) → HasServed head (before ++ lists ∷ []) (book_of new)
served-more head before lists old new counted went h served =
    let standing : AreRightSoFar head (length before + 1) (book_of new) = went.standing (length before + 1) h (standing-served head before (book_of old) counted served) in
    record {
      control = own-took (λ (x : ControlEntry). (x.stamp, x.event)) in_control head before lists old.control.journal new.control.journal h went.control served.control;
      conns = lanes-served (conn_kind head) head before lists old.control.journal new.control.journal (conn_journals old.conns.items) (conn_journals new.conns.items) h went.conns standing.conns served.conns;
      units = lanes-served data_kind head before lists old.control.journal new.control.journal (data_journals old.units.items) (data_journals new.units.items) h went.units standing.units served.units;
    }

-- ---- before the first event

served-first : (kind : LaneKind) (head : Head) (control : List ControlEntry) (k : ℕ) (journal : List Entry) → journal ≡ [] → IsServed kind head [] control k journal
served-first kind head control k journal empty =
    subst (IsServed kind head [] control k) (sym empty) (record { own = no-events; routed = tt; rising = λ i j d le lt. absurd (omega (arith, lt)) })

pub first-served : (head : Head) (node : Node) → IsFirst head node → HasServed head [] (book_of node)
first-served head node first = record {
  control = subst (λ l. IsOfLane in_control head [] (control_pairs_of l)) (sym first.control) no-events;
  conns = all-lanes (λ journal. journal ≡ []) (IsServed (conn_kind head) head [] node.control.journal) (λ k journal. Unit {0}) 0 (conn_journals node.conns.items)
      (λ k journal empty t. served-first (conn_kind head) head node.control.journal k journal empty) (all-map (λ journal. journal ≡ []) (λ (l : ConnLaneState). l.journal) node.conns.items first.conns) (any-lanes 0 (conn_journals node.conns.items));
  units = all-lanes (λ journal. journal ≡ []) (IsServed data_kind head [] node.control.journal) (λ k journal. Unit {0}) 0 (data_journals node.units.items)
      (λ k journal empty t. served-first data_kind head node.control.journal k journal empty) (all-map (λ journal. journal ≡ []) (λ (l : LaneState). l.journal) node.units.items first.units) (any-lanes 0 (data_journals node.units.items));
}

-- ---- the book

conn-legal : (head : Head) (k : ℕ) (lane : ConnLaneState) → IsConnJournal lane.head lane.number lane.journal → IsConnLaneOf head k lane → IsConnJournal (lane_head_of head) k lane.journal
conn-legal head k lane legal of =
    subst (λ n. IsConnJournal (lane_head_of head) n lane.journal) of.of_number (subst (λ h. IsConnJournal h lane.number lane.journal) of.of_head legal)

data-legal : (head : Head) (k : ℕ) (lane : LaneState) → IsDataJournal lane.head lane.number lane.journal → IsDataLaneOf head k lane → IsDataJournal (lane_head_of head) k lane.journal
data-legal head k lane legal of =
    subst (λ n. IsDataJournal (lane_head_of head) n lane.journal) of.of_number (subst (λ h. IsDataJournal h lane.number lane.journal) of.of_head legal)

legal-node : (head : Head) (node : Node) → IsOf head node → HasLegal node → AreLegal head (book_of node)
legal-node head node lanes legal = record {
  control = subst (λ s. IsControlJournal (control_head_of head) s node.control.journal) lanes.start (subst (λ h. IsControlJournal h node.control.start node.control.journal) lanes.control_head legal.control);
  conns = lanes-map (IsConnJournal (lane_head_of head)) (λ (l : ConnLaneState). l.journal) 0 node.conns.items
      (all-lanes (λ (l : ConnLaneState). IsConnJournal l.head l.number l.journal) (λ k (l : ConnLaneState). IsConnJournal (lane_head_of head) k l.journal) (IsConnLaneOf head) 0 node.conns.items (λ k l p of. conn-legal head k l p of) legal.conns lanes.conns);
  units = lanes-map (IsDataJournal (lane_head_of head)) (λ (l : LaneState). l.journal) 0 node.units.items
      (all-lanes (λ (l : LaneState). IsDataJournal l.head l.number l.journal) (λ k (l : LaneState). IsDataJournal (lane_head_of head) k l.journal) (IsDataLaneOf head) 0 node.units.items (λ k l p of. data-legal head k l p of) legal.units lanes.units);
}

-- the book of lanes that took the events of all phases
pub right-book : (head : Head) (phases : List (List Stamped)) (node : Node) (book : Book) → IsOf head node → HasServed head phases (book_of node) → HasLegal node → book ≡ book_of node → IsRight head phases book
right-book head phases node book lanes served legal same =
    subst (IsRight head phases) (sym same) (record {
      lanes = record {
        conns = length-map node.conns.items (λ (l : ConnLaneState). l.journal) ∙ lanes.conn_lanes;
        units = length-map node.units.items (λ (l : LaneState). l.journal) ∙ lanes.data_lanes;
      };
      legal = legal-node head node lanes legal;
      served = served;
    })

-- ---- calls that may be refused

pub right-done : {E : Type 0} (head : Head) (phases : List (List Stamped)) (node : Node) (r : Result Book E) → IsOf head node → HasServed head phases (book_of node) → IfOk r (λ book. HasLegal node) → IfOk r (λ book. book ≡ book_of node)
    → IfOk r (λ book. IsRight head phases book)
right-done head phases node (Ok book) lanes served legal same = right-book head phases node book lanes served legal same
right-done head phases node (Err f) lanes served legal same = tt

-- ---- what the first lanes can take

pub first-can : (head : Head) (events : Stamped) (node : Node) → IsHead head → length events < 4294967296 → IsFirst head node → CanTake head events node
first-can head events node stated few first = record {
  stated = stated;
  lanes = first.lanes;
  room = record {
    control = omega (arith, few, ap length first.control);
    conns = all-map (λ journal. length journal + length events < 4294967296) (λ (l : ConnLaneState). l.journal) node.conns.items
        (weaker (λ (l : ConnLaneState). l.journal ≡ []) (λ (l : ConnLaneState). length l.journal + length events < 4294967296) node.conns.items (λ l empty. omega (arith, few, ap length empty)) first.conns);
  };
}
