-- What the lines of a book say: lanes, their entries, and the lines of these entries' outputs.
use Rattle.std.specs.Prelude.{ℕ, ◌+◌, codes, List, [], ◌∷◌, ◌++◌, map, Option, None, option_map}
use Rattle.std.specs.Fmt.{decimal}
use Rattle.relay_base.specs.declared.words.Stamp.{Stamp}
use Rattle.plant_core.specs.declared.answer.Answer.{Answer}
use Rattle.plant_core.specs.declared.answer.Answer.TheVariants as answer
use Rattle.plant_core.specs.declared.entry.Asked.{Asked}
use Rattle.plant_core.specs.declared.entry.Entry.{Entry}
use Rattle.plant_core.specs.declared.entry.ControlEntry.{ControlEntry}
use Rattle.journal_text.specs.Print.{cause_text}
use Rattle.journal_text.specs.declared.book.Book.{Book}
use Rattle.book_output.specs.Print.{line_of_lane, line_of_control, line_of_entry, line_of_output}
use Rattle.journal_form.specs.Headings.{RoutingWords, EntryWords}
use Rattle.journal_form.specs.Parts.{EntryPart, LanePart}

abbrev pub way_of : Answer → List ℕ
way_of (answer.Local ssn) = codes "local"
way_of (answer.Forward dpc rewrite hop) = codes "to"
way_of (answer.Refused cause local) = codes "no"

abbrev pub value_of : Answer → List ℕ
value_of (answer.Local ssn) = decimal ssn
value_of (answer.Forward dpc rewrite hop) = decimal dpc
value_of (answer.Refused cause local) = cause_text cause

abbrev pub routing_words : Asked → RoutingWords
routing_words asked = record { edition = decimal asked.edition; way = way_of asked.answer; value = value_of asked.answer }

-- the words of an entry with this stamp, the routing that it asked for, and the edition that it published
abbrev pub entry_words : Stamp → Option Asked → Option ℕ → EntryWords
entry_words stamp asked published = record {
  phase = decimal stamp.phase;
  link = decimal stamp.link;
  line = decimal stamp.line;
  asked = option_map routing_words asked;
  published = option_map decimal published;
}

-- an entry: its line, what this says, and the lines of its outputs
pub record PrintedEntry : Type 0 where
  pub text : List ℕ
  pub words : EntryWords
  pub outs : List (List ℕ)

-- a lane: its line, and its entries
pub record PrintedLane : Type 0 where
  pub text : List ℕ
  pub entries : List PrintedEntry

-- those of a book

abbrev pub printed_entry : Entry → PrintedEntry
printed_entry e = record { text = line_of_entry e; words = entry_words e.stamp e.asked None; outs = map line_of_output e.outs }

abbrev pub printed_control : ControlEntry → PrintedEntry
printed_control e = record { text = line_of_control e; words = entry_words e.stamp None e.published; outs = map line_of_output e.outs }

abbrev pub printed_kind : List ℕ → ℕ → List (List Entry) → List PrintedLane
printed_kind name number [] = []
printed_kind name number (lane ∷ more) = record { text = line_of_lane name number; entries = map printed_entry lane } ∷ printed_kind name (number + 1) more

abbrev pub printed : Book → List PrintedLane
printed book =
    record { text = codes "= control"; entries = map printed_control book.control }
    ∷ (printed_kind (codes "conn") 0 book.conns ++ printed_kind (codes "data") 0 book.units)

-- and those that are read of a text, without the numbers of their lines

abbrev pub read_entry : EntryPart → PrintedEntry
read_entry e = record { text = e.text; words = e.words; outs = e.outs }

abbrev pub read_lane : LanePart → PrintedLane
read_lane lane = record { text = lane.text; entries = map read_entry lane.entries }
