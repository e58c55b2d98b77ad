-- The law of the lengths: no message that is sent is longer than one M3UA message carries (RFC 4666, 3.3.1).
use Rattle.std.specs.Prelude.{◌≡◌, ◌≤◌, ℕ, List, [], length}
use Rattle.std.specs.List.{AllByRecursion, flat_map}
use Rattle.relay_base.specs.declared.words.Output.{Output}
use Rattle.relay_base.specs.declared.words.Output.TheVariants.{Sent, Told, Lost}
use Rattle.m3ua_port.specs.declared.limits.TheConstants.{LONGEST_CARRIED}
use Rattle.m3ua_port.specs.Wrapping.{wrapped}
use Rattle.plant_core.specs.Plant.{RoutingData}
use Rattle.plant_core.specs.declared.entry.ControlEntry.{ControlEntry}
use Rattle.plant_core.specs.declared.entry.Entry.{Entry}
use Rattle.plant_core.specs.declared.terms.LaneHead.{LaneHead}
use Rattle.scmg.specs.declared.head.ControlHead.{ControlHead}
use Rattle.scmg.specs.Control.{IsControlJournal}
use Rattle.section_model.specs.Journals.{IsConnJournal}
use Rattle.data_lane.specs.Legal.{IsDataJournal}
use Rattle.node_head.specs.declared.head.Head.{Head}
use Rattle.journal_text.specs.declared.book.Book.{Book}
use Rattle.capture_form.specs.Events.{Stamped}
use Rattle.capture_generator.specs.Counts.{outputs_in}
use Rattle.book_output.specs.Sending.{sent_frames}
use Rattle.right_book.specs.Right.{IsRight}

-- one M3UA message carries the octets
abbrev pub FitsOne : List ℕ → Type 0
FitsOne octets = length octets ≤ LONGEST_CARRIED

abbrev pub IsCarried : Output → Type 0
IsCarried (Sent point sls octets) = FitsOne octets
IsCarried (Told ssn tell) = Unit {0}
IsCarried (Lost lost) = Unit {0}

abbrev pub AreCarried : List Output → Type 0
AreCarried outs = AllByRecursion IsCarried outs

-- the law of each lane: it holds of every legal journal, whatever events and answers it has
abbrev pub ControlIsCarried : Type 0
ControlIsCarried =
    (head : ControlHead) (start : RoutingData) (journal : List ControlEntry) → IsControlJournal head start journal →
    AllByRecursion (λ e. AreCarried e.outs) journal

abbrev pub ConnIsCarried : Type 0
ConnIsCarried =
    (head : LaneHead) (number : ℕ) (journal : List Entry) → IsConnJournal head number journal →
    AllByRecursion (λ e. AreCarried e.outs) journal

abbrev pub DataIsCarried : Type 0
DataIsCarried =
    (head : LaneHead) (number : ℕ) (journal : List Entry) → IsDataJournal head number journal →
    AllByRecursion (λ e. AreCarried e.outs) journal

pub record LanesAreCarried : Type 0 where
  pub control : ControlIsCarried
  pub conns : ConnIsCarried
  pub units : DataIsCarried

-- and so of a right book
abbrev pub BookIsCarried : Type 0
BookIsCarried =
    (head : Head) (phases : List (List Stamped)) (book : Book) → IsRight head phases book →
    AllByRecursion AreCarried (outputs_in book)

-- the M3UA message of what is sent, however long it is, and those of all that a book sends
abbrev pub frame_of_any : ℕ → Output → List ℕ
frame_of_any own (Sent point sls octets) = wrapped own point sls octets
frame_of_any own _ = []

abbrev pub all_frames : ℕ → Book → List ℕ
all_frames own book = flat_map (flat_map (frame_of_any own)) (outputs_in book)

-- a right book has a message for each: none is left out
abbrev pub NoneIsLeftOut : Type 0
NoneIsLeftOut =
    (own : ℕ) (head : Head) (phases : List (List Stamped)) (book : Book) → IsRight head phases book →
    sent_frames own book ≡ all_frames own book
