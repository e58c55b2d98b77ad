-- What a right book states is in its ranges.
use Rattle.std.proofs.Common.{◌≡◌, ℕ, ◌+◌, ◌*◌, ◌<◌, ◌≤◌, ◌&&◌, nat_le, List, [], ◌∷◌, length, take, Option, Some, None, is_some, sym, subst, arith}
use Rattle.std.specs.Prelude.{IfSome}
use Rattle.std.specs.List.{AllByRecursion}
use Rattle.std.proofs.lemmas.List.{length-map}
use Rattle.std.proofs.lemmas.List.Sums.{count_by-le-length}
use Rattle.relay_base.specs.declared.limits.TheConstants.{MOST_LANES}
use Rattle.relay_base.specs.declared.words.Event.{Event}
use Rattle.relay_base.specs.declared.words.Stamp.{Stamp}
use Rattle.plant_core.specs.Asking.{Question, answer_in}
use Rattle.plant_core.specs.Changes.{plant_after, plant_after_all}
use Rattle.plant_core.specs.Plant.{RoutingData}
use Rattle.plant_core.specs.declared.change.Group.{Group}
use Rattle.plant_core.specs.declared.entry.Asked.{Asked}
use Rattle.plant_core.specs.declared.entry.Entry.{Entry}
use Rattle.plant_core.specs.declared.entry.ControlEntry.{ControlEntry}
use Rattle.plant_core.specs.declared.entry.ControlEvent.{ControlEvent}
use Rattle.scmg.specs.Control.{Control, start_of_control, edition_after, count_after, managed, after_entry, LegalFrom}
use Rattle.scmg.specs.declared.head.ControlHead.{ControlHead}
use Rattle.section_model.specs.Journals.{IsConnJournal}
use Rattle.data_lane.specs.Legal.{IsDataJournal}
use Rattle.node_head.specs.declared.head.Head.{Head}
use Rattle.capture_form.specs.Events.{Stamped}
use Rattle.right_book.specs.Editions.{changes_of, edition_of, IsAnswer, IsRouting}
use Rattle.right_book.specs.Heads.{routing_of, lane_head_of, control_head_of}
use Rattle.right_book.specs.Lanes.{LaneKind, conn_kind, data_kind, LanesFrom, IsRouted, IsServed}
use Rattle.right_book.specs.Own.{pairs_of, control_pairs_of}
use Rattle.right_book.specs.Placed.{in_control}
use Rattle.printable_law.specs.Ranges.{EventInRange, QuestionInRange, AnswerInRange, EntryInRange, GroupInRange, RoutingInRange, OutputsInRange, LaneHeadInRange}
use Rattle.printable_law.proofs.Lists.{all-take}
use Rattle.printable_law.proofs.Routing.{routing_keeps_ranges}
use Rattle.printable_law.specs.ManagementRanges.{ControlHeadInRange, EventsInRange}
use Rattle.printable_law.proofs.Journals.{control_keeps_ranges}
use Rattle.printable_law.proofs.Connections.{conn_asks_in_range, conn_keeps_ranges}
use Rattle.printable_law.proofs.Units.{data_asks_in_range}
use Rattle.printable_law.proofs.UnitJournals.{data_keeps_ranges}
use Rattle.printable_law.specs.CaptureRanges.{HeadInRange, StampedInRange, InputInRange}
use Rattle.printable_law.specs.BookRanges.{IsEdition, AskedInRange, EntryGiven, ControlGiven, LanesGiven, RightBooksAreInRange}
use Rattle.printable_law.proofs.Counting.{few-own}
use Rattle.printable_law.proofs.Placing.{own-in}

-- What lanes are told of a head.

lane-told : (head : Head) → HeadInRange head → LaneHeadInRange (lane_head_of head)
lane-told head told = record { own = told.point; credit = told.credit }

control-told : (head : Head) → HeadInRange head → ControlHeadInRange (control_head_of head)
control-told head told = record { concerned = told.concerned; replicates = told.replicates }

routing-told : (head : Head) → HeadInRange head → RoutingInRange (routing_of head)
routing-told head told = record { own = told.point; rows = told.rows }

-- The control lane.

control-events : (journal : List ControlEntry) → AllByRecursion StampedInRange (control_pairs_of journal) → EventsInRange journal
control-events [] all = tt
control-events (e ∷ journal) all = (all.0.1, control-events journal all.1)

published-most : (head : ControlHead) (c : Control) (edition most : ℕ) (journal : List ControlEntry) → edition + length journal ≤ most → LegalFrom head c edition journal
    → AllByRecursion (λ (e : ControlEntry). IfSome e.published (λ n. n ≤ most)) journal
published-most head c edition most [] few legal = tt
published-most head c edition most (entry ∷ more) few legal =
    let group = (managed head c entry.event).published in (
      subst (λ (o : Option ℕ). IfSome o (λ n. n ≤ most)) (sym legal.0.published) (of_group group),
      published-most head (after_entry head c entry) (count_after edition group) most more (next group) legal.1,
    )
  where
    of_group : (group : Option Group) → IfSome (edition_after edition group) (λ n. n ≤ most)
    of_group None = tt
    of_group (Some group) = omega (arith, few)

    next : (group : Option Group) → count_after edition group + length more ≤ most
    next None = omega (arith, few)
    next (Some group) = omega (arith, few)

-- no lane has more entries
abbrev most_entries : ℕ
most_entries = 4_294_967_296 * (256 * 4_294_967_296)

edition-small : (n : ℕ) → n ≤ most_entries → IsEdition n
edition-small n few = omega (arith, few)

control-given : (journal : List ControlEntry) → AllByRecursion StampedInRange (control_pairs_of journal)
    → AllByRecursion (λ (e : ControlEntry). IfSome e.published (λ n. n ≤ most_entries)) journal → AllByRecursion (λ (e : ControlEntry). OutputsInRange e.outs) journal
    → AllByRecursion ControlGiven journal
control-given [] all published outs = tt
control-given (e ∷ journal) all published outs = ((all.0.0, small e.published published.0, outs.0), control-given journal all.1 published.1 outs.1)
  where
    small : (o : Option ℕ) → IfSome o (λ n. n ≤ most_entries) → IfSome o IsEdition
    small None few = tt
    small (Some n) few = edition-small n few

-- The editions, and the answers of them.

after-groups : (p : RoutingData) (groups : List Group) → RoutingInRange p → AllByRecursion GroupInRange groups → RoutingInRange (plant_after_all p groups)
after-groups p [] routing all = routing
after-groups p (group ∷ groups) routing all = after-groups (plant_after p group) groups (routing_keeps_ranges.changes p group routing all.0) all.1

edition-in : (head : Head) (control : List ControlEntry) (n : ℕ) → HeadInRange head → EventsInRange control → RoutingInRange (edition_of head control n)
edition-in head control n told events =
    after-groups (routing_of head) (take n (changes_of head control)) (routing-told head told)
    (all-take GroupInRange n (changes_of head control) (control_keeps_ranges.changes (control_head_of head) (routing_of head) control (control-told head told) (routing-told head told) events))

asked-in : (head : Head) (control : List ControlEntry) (phase : ℕ) (asks : Question) (asked : Asked) → HeadInRange head → EventsInRange control
    → length control ≤ most_entries → QuestionInRange asks → IsAnswer head control phase asks asked → AskedInRange asked
asked-in head control phase asks asked told events few q is = (
  edition-small asked.edition (omega (arith, is.most, few, count_by-le-length (λ (e : ControlEntry). is_some e.published && nat_le e.stamp.phase phase) control)),
  subst AnswerInRange (sym is.answer) (routing_keeps_ranges.answers (edition_of head control asked.edition) asks (edition-in head control asked.edition told events) q),
)

routed-in : (head : Head) (control : List ControlEntry) (phase : ℕ) (asks : Option Question) (asked : Option Asked) → HeadInRange head → EventsInRange control
    → length control ≤ most_entries → IfSome asks QuestionInRange → IsRouting head control phase asks asked → IfSome asked AskedInRange
routed-in head control phase None None told events few q is = tt
routed-in head control phase (Some asks) (Some asked) told events few q is = asked-in head control phase asks asked told events few q is
routed-in head control phase None (Some asked) told events few q is = absurd is
routed-in head control phase (Some asks) None told events few q is = absurd is

-- A connection lane or a data lane.

abbrev AsksInRange : (Event → Option Question) → Type 0
AsksInRange question = (event : Event) → EventInRange event → IfSome (question event) QuestionInRange

all-asked : (question : Event → Option Question) (head : Head) (control : List ControlEntry) (journal : List Entry) → AsksInRange question → HeadInRange head
    → EventsInRange control → length control ≤ most_entries → AllByRecursion StampedInRange (pairs_of journal) → AllByRecursion (IsRouted question head control) journal
    → AllByRecursion (λ (e : Entry). IfSome e.asked AskedInRange) journal
all-asked question head control [] asks told events few stamped routed = tt
all-asked question head control (e ∷ journal) asks told events few stamped routed = (
  routed-in head control e.stamp.phase (question e.event) e.asked told events few (asks e.event stamped.0.1) routed.0,
  all-asked question head control journal asks told events few stamped.1 routed.1,
)

entries-in : (journal : List Entry) → AllByRecursion StampedInRange (pairs_of journal) → AllByRecursion (λ (e : Entry). IfSome e.asked AskedInRange) journal
    → AllByRecursion EntryInRange journal
entries-in [] stamped asked = tt
entries-in (e ∷ journal) stamped asked = ((stamped.0.1, answer e.asked asked.0), entries-in journal stamped.1 asked.1)
  where
    answer : (o : Option Asked) → IfSome o AskedInRange → IfSome (answer_in o) AnswerInRange
    answer None in_range = tt
    answer (Some asked) in_range = in_range.1

entries-given : (journal : List Entry) → AllByRecursion StampedInRange (pairs_of journal) → AllByRecursion (λ (e : Entry). IfSome e.asked AskedInRange) journal
    → AllByRecursion (λ (e : Entry). OutputsInRange e.outs) journal → AllByRecursion EntryGiven journal
entries-given [] stamped asked outs = tt
entries-given (e ∷ journal) stamped asked outs = ((stamped.0.0, asked.0, outs.0), entries-given journal stamped.1 asked.1 outs.1)

-- a law of the outputs of a journal of a lane with this number
abbrev KeepsRanges : (ℕ → List Entry → Type 0) → ℕ → Type 0
KeepsRanges IsLegal limit =
    (number : ℕ) (journal : List Entry) → number < limit → IsLegal number journal → AllByRecursion EntryInRange journal
    → AllByRecursion (λ (e : Entry). OutputsInRange e.outs) journal

lanes-given : (IsLegal : ℕ → List Entry → Type 0) (kind : LaneKind) (head : Head) (phases : List (List Stamped)) (control : List ControlEntry) (limit number : ℕ)
    (lanes : List (List Entry)) → KeepsRanges IsLegal limit → AsksInRange kind.question → InputInRange head phases → EventsInRange control
    → length control ≤ most_entries → number + length lanes ≤ limit → LanesFrom IsLegal number lanes → LanesFrom (IsServed kind head phases control) number lanes
    → LanesGiven lanes
lanes-given IsLegal kind head phases control limit number [] keeps asks input events few fit legal served = tt
lanes-given IsLegal kind head phases control limit number (journal ∷ lanes) keeps asks input events few fit legal served =
    let stamped = own-in (kind.is_in number) head phases (pairs_of journal) input.events served.0.own in
    let asked = all-asked kind.question head control journal asks input.told events few stamped served.0.routed in (
      entries-given journal stamped asked (keeps number journal (omega (arith, fit)) legal.0 (entries-in journal stamped asked)),
      lanes-given IsLegal kind head phases control limit (number + 1) lanes keeps asks input events few (omega (arith, fit)) legal.1 served.1,
    )

-- The book.

length-pairs : (journal : List ControlEntry) → length (control_pairs_of journal) ≡ length journal
length-pairs journal = length-map {B = Stamp × ControlEvent} journal (λ e. (e.stamp, e.event))

pub right_books_are_in_range : RightBooksAreInRange
right_books_are_in_range head phases book input right =
    let control = book.control in
    let told = input.told in
    let stamped = own-in in_control head phases (control_pairs_of control) input.events right.served.control in
    let events = control-events control stamped in
    let few : length control ≤ most_entries = omega (arith, few-own in_control head phases (control_pairs_of control) input.few right.served.control stamped, length-pairs control) in
    let lane = lane-told head told in record {
      control =
          control-given control stamped (published-most (control_head_of head) (start_of_control (routing_of head)) 0 most_entries control (omega (arith, few)) right.legal.control)
          (control_keeps_ranges.outputs (control_head_of head) (routing_of head) control (control-told head told) (routing-told head told) right.legal.control events);
      conns =
          lanes-given (IsConnJournal (lane_head_of head)) (conn_kind head) head phases control MOST_LANES 0 book.conns
          (λ number journal small legal entries. conn_keeps_ranges (lane_head_of head) number journal lane small legal entries)
          (λ event taken. conn_asks_in_range (lane_head_of head) event lane taken) input events few (omega (arith, right.lanes.conns, told.conn_lanes)) right.legal.conns right.served.conns;
      units =
          lanes-given (IsDataJournal (lane_head_of head)) data_kind head phases control (length book.units) 0 book.units
          (λ number journal small legal entries. data_keeps_ranges (lane_head_of head) number journal lane legal entries)
          data_asks_in_range input events few (omega arith) right.legal.units right.served.units;
    }
