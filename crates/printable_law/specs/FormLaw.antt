-- The laws of the form: what is printed has it.
use Rattle.std.specs.Prelude.{◌≡◌, ℕ, ◌<◌, ◌^◌, true, List, length, map, Option, Some, None}
use Rattle.std.specs.Fmt.{decimal}
use Rattle.std.specs.List.{AllByRecursion}
use Rattle.relay_base.specs.Decimal.{digits_value}
use Rattle.relay_base.specs.declared.words.Output.{Output}
use Rattle.relay_base.specs.declared.words.Stamp.{Stamp}
use Rattle.plant_core.specs.declared.entry.Asked.{Asked}
use Rattle.plant_core.specs.declared.entry.Entry.{Entry}
use Rattle.plant_core.specs.declared.entry.ControlEntry.{ControlEntry}
use Rattle.journal_text.specs.Print.{octets_text}
use Rattle.journal_text.specs.declared.book.Book.{Book}
use Rattle.book_output.specs.Print.{line_of_lane, line_of_output, line_of_entry, line_of_control, print_of}
use Rattle.journal_form.specs.Words.{is_number, is_octets}
use Rattle.journal_form.specs.Form.{lane_line, lane_lines, form_fault}
use Rattle.journal_form.specs.Outputs.{is_output_line}
use Rattle.journal_form.specs.Headings.{heading_of}
use Rattle.journal_form.specs.Stamps.{stamp_of}
use Rattle.journal_form.specs.Parts.{LanePart, HasForm}
use Rattle.printable_law.specs.Printed.{PrintedLane, entry_words, read_lane, printed}
use Rattle.printable_law.specs.Written.{AreWritable, of_output, of_heading, of_control_heading, IsPrintable}

-- octets that are written so
pub record IsOctetsText (word : List ℕ) : Type 0 where
  pub bytes : List ℕ
  pub octets : AllByRecursion (λ b. b < 256) bytes
  pub is : octets_text bytes ≡ word

-- A word that the form takes for a number below 2^64 is printed of its value, and one that it takes for octets is printed of some.
pub record WordsArePrinted : Type 0 where
  pub numbers : (word : List ℕ) → is_number word ≡ true → digits_value word < 2 ^ 64 → decimal (digits_value word) ≡ word
  pub octets : (word : List ℕ) → is_octets word ≡ true → IsOctetsText word

-- The line of an output that is printed is one that the form allows.
abbrev pub OutputsHaveForm : Type 0
OutputsHaveForm = (o : Output) → AreWritable (of_output o) → is_output_line (line_of_output o) ≡ true

-- The line of a lane that is printed is the form's, and a book's lanes are those of a journal with as many lanes.
pub record LanesHaveForm : Type 0 where
  pub line : (name : List ℕ) (number : ℕ) → line_of_lane name number ≡ lane_line name number
  pub lines : (book : Book) → map (λ (lane : PrintedLane). lane.text) (printed book) ≡ lane_lines (length book.conns) (length book.units)

-- ---- the lines of entries

-- The line of an entry that is printed says its stamp and its routing, or what it published.
pub record HeadingsHaveForm : Type 0 where
  pub entries : (e : Entry) → AreWritable (of_heading e) → heading_of (line_of_entry e) ≡ Some (entry_words e.stamp e.asked None)
  pub controls : (e : ControlEntry) → AreWritable (of_control_heading e) → heading_of (line_of_control e) ≡ Some (entry_words e.stamp None e.published)

-- the numbers of a stamp are as large as they may be in a capture
pub record IsStamp (stamp : Stamp) : Type 0 where
  pub phase : stamp.phase < 4294967296
  pub link : stamp.link < 256
  pub line : stamp.line < 4294967296

-- And its stamp is read of these words.
abbrev pub StampsAreRead : Type 0
StampsAreRead = (stamp : Stamp) (asked : Option Asked) (published : Option ℕ) → IsStamp stamp → stamp_of (entry_words stamp asked published) ≡ Some stamp

-- ---- books

-- No line of a print breaks the form of a journal with as many lanes as the book has.
abbrev pub PrintHasForm : Type 0
PrintHasForm = (book : Book) → IsPrintable book → form_fault (lane_lines (length book.conns) (length book.units)) (print_of book) ≡ None

-- Whatever is read of a print as the lanes of such a journal: it is the lanes of the book, with their entries and outputs.
abbrev pub PrintIsRead : Type 0
PrintIsRead =
    (book : Book) (lanes : List LanePart) → IsPrintable book → HasForm (lane_lines (length book.conns) (length book.units)) (print_of book) lanes
    → map read_lane lanes ≡ printed book
