-- The law of the ranges of a book: what it states is in them where its input is.
use Rattle.std.specs.Prelude.{ℕ, ◌<◌, ◌^◌, List, IfSome}
use Rattle.std.specs.List.{AllByRecursion}
use Rattle.plant_core.specs.declared.entry.Asked.{Asked}
use Rattle.plant_core.specs.declared.entry.Entry.{Entry}
use Rattle.plant_core.specs.declared.entry.ControlEntry.{ControlEntry}
use Rattle.node_head.specs.declared.head.Head.{Head}
use Rattle.journal_text.specs.declared.book.Book.{Book}
use Rattle.capture_form.specs.Events.{Stamped}
use Rattle.right_book.specs.Right.{IsRight}
use Rattle.printable_law.specs.Ranges.{AnswerInRange, OutputsInRange}
use Rattle.printable_law.specs.CaptureRanges.{StampInRange, InputInRange}

-- an edition: a number of at most 64 digits
abbrev pub IsEdition : ℕ → Type 0
IsEdition n = n < 10 ^ 64

abbrev pub AskedInRange : Asked → Type 0
AskedInRange asked = IsEdition asked.edition × AnswerInRange asked.answer

abbrev pub EntryGiven : Entry → Type 0
EntryGiven e = StampInRange e.stamp × IfSome e.asked AskedInRange × OutputsInRange e.outs

abbrev pub ControlGiven : ControlEntry → Type 0
ControlGiven e = StampInRange e.stamp × IfSome e.published IsEdition × OutputsInRange e.outs

abbrev pub LanesGiven : List (List Entry) → Type 0
LanesGiven lanes = AllByRecursion (λ (entries : List Entry). AllByRecursion EntryGiven entries) lanes

-- the numbers and the octets of its entries are in their ranges
pub record BookInRange (book : Book) : Type 0 where
  pub control : AllByRecursion ControlGiven book.control
  pub conns : LanesGiven book.conns
  pub units : LanesGiven book.units

abbrev pub RightBooksAreInRange : Type 0
RightBooksAreInRange = (head : Head) (phases : List (List Stamped)) (book : Book) → InputInRange head phases → IsRight head phases book → BookInRange book
