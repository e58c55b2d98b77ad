-- The print of a book: for each lane, the control lane before those of connections and these before those of units, a line that names it, and under it its entries in the order in
-- which the lane took them. An entry is a line, the stamp of its event with the answer of routing or the edition that it published, and under that a line for each of its outputs.
use Rattle.std.specs.Prelude.{ℕ, ◌+◌, ◌++◌, codes, List, [], ◌∷◌, map}
use Rattle.std.specs.Fmt.{decimal}
use Rattle.relay_base.specs.declared.words.Output.{Output}
use Rattle.plant_core.specs.declared.entry.Entry.{Entry}
use Rattle.plant_core.specs.declared.entry.ControlEntry.{ControlEntry}
use Rattle.node_head.specs.Lines.{joined}
use Rattle.journal_text.specs.Print.{stamp_text, asked_text, published_text, output_text}
use Rattle.journal_text.specs.declared.book.Book.{Book}
use Rattle.capture_generator.specs.Counts.{outputs_in}

-- ---- the lines, each without its line feed

abbrev pub line_of_lane : List ℕ → ℕ → List ℕ
line_of_lane name number = codes "= " ++ name ++ codes " " ++ decimal number

abbrev pub line_of_control : ControlEntry → List ℕ
line_of_control e = stamp_text e.stamp ++ published_text e.published

abbrev pub line_of_entry : Entry → List ℕ
line_of_entry e = stamp_text e.stamp ++ asked_text e.asked

abbrev pub line_of_output : Output → List ℕ
line_of_output o = codes " " ++ output_text o

-- ---- the headings: the lines of the lanes, and those of their entries, under which the outputs stand

pub data Heading : Type 0 where
  OfLane : List ℕ → Heading
  OfEntry : List ℕ → Heading

abbrev pub lane_headings : List ℕ → List (List ℕ) → List Heading
lane_headings lane entries = OfLane lane ∷ map OfEntry entries

-- those of the lanes of a kind, from a number on
abbrev pub kind_headings : List ℕ → ℕ → List (List Entry) → List Heading
kind_headings name number [] = []
kind_headings name number (lane ∷ more) =
    lane_headings (line_of_lane name number) (map line_of_entry lane) ++ kind_headings name (number + 1) more

abbrev pub headings_in : Book → List Heading
headings_in book =
    lane_headings (codes "= control") (map line_of_control book.control)
    ++ kind_headings (codes "conn") 0 book.conns ++ kind_headings (codes "data") 0 book.units

-- ---- the print

-- headings, and under each entry's a line for each of its outputs: the first entry has the first list of them, and so on
abbrev pub woven : List Heading → List (List Output) → List (List ℕ)
woven [] outputs = []
woven (OfLane line ∷ more) outputs = line ∷ woven more outputs
woven (OfEntry line ∷ more) [] = line ∷ woven more []
woven (OfEntry line ∷ more) (outs ∷ outputs) = line ∷ (map line_of_output outs ++ woven more outputs)

abbrev pub book_lines : Book → List (List ℕ)
book_lines book = woven (headings_in book) (outputs_in book)

-- the lines of a book, each ended by a line feed
abbrev pub print_of : Book → List ℕ
print_of book = joined (book_lines book)
