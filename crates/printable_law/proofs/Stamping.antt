-- The stamps of a right book's entries are in their ranges.
use Rattle.std.proofs.Common.{List, [], ◌∷◌}
use Rattle.std.specs.List.{AllByRecursion}
use Rattle.relay_base.specs.declared.words.Stamp.{Stamp}
use Rattle.plant_core.specs.declared.entry.Entry.{Entry}
use Rattle.plant_core.specs.declared.entry.ControlEntry.{ControlEntry}
use Rattle.journal_text.specs.declared.book.Book.{Book}
use Rattle.printable_law.specs.FormLaw.{IsStamp}
use Rattle.printable_law.specs.CaptureRanges.{StampInRange}
use Rattle.printable_law.specs.BookRanges.{EntryGiven, ControlGiven, LanesGiven, BookInRange}
use Rattle.printable_law.proofs.Books.{right_books_are_in_range}
use Rattle.printable_law.specs.PrintableLaw.{AreStamped, HasStamps, RightIsStamped}

is-stamp : (stamp : Stamp) → StampInRange stamp → IsStamp stamp
is-stamp stamp given = record { phase = given.phase; link = given.link; line = given.line }

control-stamps : (journal : List ControlEntry) → AllByRecursion ControlGiven journal → AllByRecursion (λ (e : ControlEntry). IsStamp e.stamp) journal
control-stamps [] all = tt
control-stamps (e ∷ journal) all = (is-stamp e.stamp all.0.0, control-stamps journal all.1)

entry-stamps : (journal : List Entry) → AllByRecursion EntryGiven journal → AllByRecursion (λ (e : Entry). IsStamp e.stamp) journal
entry-stamps [] all = tt
entry-stamps (e ∷ journal) all = (is-stamp e.stamp all.0.0, entry-stamps journal all.1)

lane-stamps : (lanes : List (List Entry)) → LanesGiven lanes → AreStamped lanes
lane-stamps [] all = tt
lane-stamps (journal ∷ lanes) all = (entry-stamps journal all.0, lane-stamps lanes all.1)

given-stamps : (book : Book) → BookInRange book → HasStamps book
given-stamps book given = record {
  control = control-stamps book.control given.control;
  conns = lane-stamps book.conns given.conns;
  units = lane-stamps book.units given.units;
}

pub right_is_stamped : RightIsStamped
right_is_stamped head phases book is = given-stamps book (right_books_are_in_range head phases book is.input is.right)
