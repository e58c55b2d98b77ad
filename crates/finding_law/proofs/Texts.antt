-- A text whose lines are those of a book is its print; and the parts of a print are those of the book's entries.
use Rattle.std.proofs.Common.{◌≡◌, ◌∙◌, ℕ, suc, ◌+◌, ◌-◌, ◌<◌, ◌==◌, List, [], ◌∷◌, ◌++◌, length, map, Option, Some, None, option_map, refl, sym, ap, ap₂, arith}
use Rattle.std.specs.List.{AllByRecursion, flat_map, join_with_byte}
use Rattle.std.proofs.Math.Seq.{take-suc}
use Rattle.std.proofs.lemmas.List.{take_all}
use Rattle.std.proofs.lemmas.List.Splits.{join_with_byte-slice_split, length-slice_split}
use Rattle.plant_core.specs.declared.entry.Asked.{Asked}
use Rattle.plant_core.specs.declared.entry.ControlEntry.{ControlEntry}
use Rattle.plant_core.specs.declared.entry.Entry.{Entry}
use Rattle.journal_text.specs.declared.book.Book.{Book}
use Rattle.book_output.specs.Print.{book_lines, print_of}
use Rattle.book_output.proofs.LineLemmas.{print_is_in_lines}
use Rattle.journal_form.specs.Form.{ended_lines, last_piece}
use Rattle.journal_form.specs.Parts.{EntryPart, LanePart, lane_size, AreLanes, HasForm, lines_of}
use Rattle.journal_form.specs.Words.{parted}
use Rattle.printable_law.specs.FormLaw.{IsStamp}
use Rattle.printable_law.specs.Printed.{PrintedEntry, printed, read_entry, routing_words}
use Rattle.printable_law.specs.Written.{AreWritable, of_asked, IsWritableEntry, IsWritableControl}
use Rattle.printable_law.proofs.FormReading.{lines_of_lanes, book_printed}
use Rattle.journal_finding.specs.Entries.{LaneRules}
use Rattle.finding_law.proofs.Steps.{SaysEdition, IsPartOf, ArePartsOf}
use Rattle.finding_law.proofs.Values.{value_of_decimal}

-- ---- the text

pieces_are : (pieces : List (List ℕ)) → 0 < length pieces → pieces ≡ ended_lines pieces ++ last_piece pieces ∷ []
pieces_are pieces some =
    sym (take_all (suc (length pieces - 1)) pieces (omega (arith, some))) ∙ take-suc pieces (length pieces - 1) [] (omega (arith, some))

pub names_are : (at : ℕ) (lines names : List (List ℕ)) (lanes : List LanePart) → AreLanes at lines names lanes → map (λ (lane : LanePart). lane.text) lanes ≡ names
names_are at lines [] [] are = refl
names_are at lines [] (lane ∷ lanes) are = absurd are
names_are at lines (name ∷ names) [] are = absurd are
names_are at lines (name ∷ names) (lane ∷ lanes) are = ap₂ (λ (l : List ℕ) (m : List (List ℕ)). l ∷ m) are.0.text (names_are (at + lane_size lane) lines names lanes are.1)

pub text_is : (names : List (List ℕ)) (text : List ℕ) (lanes : List LanePart) (book : Book) → HasForm names text lanes
    → flat_map lines_of lanes ≡ lines_of_lanes (printed book) → text ≡ print_of book
text_is names text lanes book form h =
    let pieces = parted 10 text in
    let cut : pieces ≡ book_lines book ++ [] ∷ [] =
    pieces_are pieces (omega (arith, length-slice_split (λ b. b == 10) text))
    ∙ ap₂ (λ (l : List (List ℕ)) (m : List ℕ). l ++ m ∷ []) (sym form.whole ∙ h ∙ sym (book_printed book)) form.end in
    sym (join_with_byte-slice_split 10 text) ∙ ap (join_with_byte 10) (cut ∙ sym (print_is_in_lines book).cut) ∙ join_with_byte-slice_split 10 (print_of book)

-- ---- the parts of a print

pub says : (asked : Option Asked) → AreWritable (of_asked asked) → SaysEdition asked (option_map routing_words asked)
says None h = tt
says (Some a) h = value_of_decimal a.edition h.0

-- an entry whose line is read again
abbrev pub IsReadable : Entry → Type 0
IsReadable e = IsStamp e.stamp × IsWritableEntry e

abbrev pub IsReadableControl : ControlEntry → Type 0
IsReadableControl e = IsStamp e.stamp × IsWritableControl e

module _ {V E : Type 0} (rules : LaneRules V E) where
  pub parts_are : (made : E → PrintedEntry) (Is : E → Type 0) → ((e : E) (part : EntryPart) → Is e → read_entry part ≡ made e → IsPartOf rules e part)
      → (journal : List E) (parts : List EntryPart) → AllByRecursion Is journal → map read_entry parts ≡ map made journal → ArePartsOf rules journal parts
  parts_are made Is each [] [] is h = tt
  parts_are made Is each [] (part ∷ parts) is h = absurd cc
  parts_are made Is each (e ∷ journal) [] is h = absurd cc
  parts_are made Is each (e ∷ journal) (part ∷ parts) is h =
      let first : read_entry part ≡ made e = cc in
      let rest : map read_entry parts ≡ map made journal = cc in
      (each e part is.0 first, parts_are made Is each journal parts is.1 rest)
