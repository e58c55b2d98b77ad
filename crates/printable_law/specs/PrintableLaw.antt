-- The laws of what may be printed: right books may, and so their prints have the form of a journal.
use Rattle.std.specs.Prelude.{◌≡◌, ℕ, List, map, None, Ok}
use Rattle.std.specs.List.{AllByRecursion}
use Rattle.plant_core.specs.declared.entry.Entry.{Entry}
use Rattle.plant_core.specs.declared.entry.ControlEntry.{ControlEntry}
use Rattle.node_head.specs.declared.head.Head.{Head}
use Rattle.journal_text.specs.declared.book.Book.{Book}
use Rattle.capture_form.specs.Capture.{capture_of}
use Rattle.capture_form.specs.Events.{Stamped}
use Rattle.capture_form.specs.declared.capture.Capture.{Capture}
use Rattle.right_book.specs.Right.{IsRight}
use Rattle.book_output.specs.Print.{print_of}
use Rattle.journal_form.specs.Form.{lane_lines, form_fault}
use Rattle.journal_form.specs.Parts.{LanePart, HasForm}
use Rattle.printable_law.specs.FormLaw.{IsStamp}
use Rattle.printable_law.specs.Printed.{read_lane, printed}
use Rattle.printable_law.specs.Written.{IsPrintable}
use Rattle.m3ua_capture.specs.Streams.{stream_capture}
use Rattle.printable_law.specs.OctetLaw.{AreOctets}
use Rattle.printable_law.specs.CaptureRanges.{InputInRange}

-- a right book of a head and phases in their ranges
pub record IsGiven (head : Head) (phases : List (List Stamped)) (book : Book) : Type 0 where
  pub input : InputInRange head phases
  pub right : IsRight head phases book

abbrev pub RightIsPrintable : Type 0
RightIsPrintable = (head : Head) (phases : List (List Stamped)) (book : Book) → IsGiven head phases book → IsPrintable book

-- so it is of each capture that an input is
abbrev pub CapturesArePrintable : Type 0
CapturesArePrintable =
    (bytes : List ℕ) (capture : Capture) (book : Book) → capture_of bytes ≡ Ok capture → IsRight capture.head capture.phases book → IsPrintable book

-- and of that which a head and a stream of M3UA messages are, whose octets are octets
abbrev pub StreamsArePrintable : Type 0
StreamsArePrintable =
    (bytes : List ℕ) (capture : Capture) (book : Book) → AreOctets bytes → stream_capture bytes ≡ Ok capture
    → IsRight capture.head capture.phases book → IsPrintable book

-- the stamp of each entry is one that is read of its line again
abbrev pub AreStamped : List (List Entry) → Type 0
AreStamped lanes = AllByRecursion (λ (entries : List Entry). AllByRecursion (λ (e : Entry). IsStamp e.stamp) entries) lanes

pub record HasStamps (book : Book) : Type 0 where
  pub control : AllByRecursion (λ (e : ControlEntry). IsStamp e.stamp) book.control
  pub conns : AreStamped book.conns
  pub units : AreStamped book.units

abbrev pub RightIsStamped : Type 0
RightIsStamped = (head : Head) (phases : List (List Stamped)) (book : Book) → IsGiven head phases book → HasStamps book

-- the lines of the lanes of a head
abbrev pub lines_of : Head → List (List ℕ)
lines_of head = lane_lines head.conn_lanes head.data_lanes

-- no line of its print breaks the form, and whatever is read of it as the lanes of such a journal: it is the lanes of the book
pub record PrintsHaveForm : Type 0 where
  pub form : (head : Head) (phases : List (List Stamped)) (book : Book) → IsGiven head phases book → form_fault (lines_of head) (print_of book) ≡ None
  pub reading :
      (head : Head) (phases : List (List Stamped)) (book : Book) (lanes : List LanePart) → IsGiven head phases book
      → HasForm (lines_of head) (print_of book) lanes → map read_lane lanes ≡ printed book
