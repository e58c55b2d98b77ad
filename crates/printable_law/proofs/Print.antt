-- The lines of a print have the form.
use Rattle.std.proofs.Common.{◌≡◌, ◌∙◌, ℕ, ◌+◌, ◌-◌, ◌||◌, true, false, List, [], ◌∷◌, ◌++◌, codes, length, take, get_or, map, None, is_some, refl, sym, ap, ap₂, append_assoc, arith, length-append}
use Rattle.std.proofs.Math.Seq.{take-append_seam, get_or-append_seam}
use Rattle.std.specs.Fmt.{decimal}
use Rattle.std.specs.List.{AllByRecursion, flat_map}
use Rattle.relay_base.specs.declared.words.Output.{Output}
use Rattle.plant_core.specs.declared.entry.Entry.{Entry}
use Rattle.plant_core.specs.declared.entry.ControlEntry.{ControlEntry}
use Rattle.journal_text.specs.declared.book.Book.{Book}
use Rattle.capture_generator.specs.Counts.{outputs_in, journal_outputs}
use Rattle.capture_generator.proofs.CaptureLemmas.{all-append}
use Rattle.book_output.specs.Print.{line_of_lane, line_of_control, line_of_entry, line_of_output, Heading, OfLane, OfEntry, kind_headings, woven, book_lines}
use Rattle.book_output.proofs.LineLemmas.{print_is_in_lines}
use Rattle.journal_form.specs.Words.{same, words}
use Rattle.journal_form.specs.Outputs.{is_output_line, are_of_output}
use Rattle.journal_form.specs.Headings.{entry_in, heading_of, is_entry_line}
use Rattle.journal_form.specs.Form.{Place, AtTop, InLane, InEntry, stands, first_fault, ended_lines, last_piece, fault_in, kind_lines, lane_lines, form_fault}
use Rattle.printable_law.specs.Written.{AreWritableOutputs, IsWritableEntry, IsWritableControl, AreWritableLanes, IsPrintable}
use Rattle.printable_law.specs.FormLaw.{PrintHasForm}
use Rattle.printable_law.proofs.FormWords.{is_without, joined_parted}
use Rattle.printable_law.proofs.Fields.{number_without}
use Rattle.printable_law.proofs.Outputs.{same_self, or_true, outputs_have_form}
use Rattle.printable_law.proofs.Headings.{headings_have_form}

-- ---- the lines of lanes

abbrev lane_words : List ℕ → ℕ → List (List ℕ)
lane_words name n = codes "=" ∷ name ∷ decimal n ∷ []

lane_parted : (name : List ℕ) (n : ℕ) → is_without 32 name ≡ true → words (line_of_lane name n) ≡ lane_words name n
lane_parted name n h =
    ap (λ l. words (codes "= " ++ l)) (append_assoc name (32 ∷ []) (decimal n))
    ∙ joined_parted 32 (codes "=") (name ∷ decimal n ∷ []) (refl, (h, (number_without 32 n (omega arith), tt)))

-- a line of neither an entry nor an output
pub record IsOther (line : List ℕ) : Type 0 where
  pub entry : is_entry_line line ≡ false
  pub output : is_output_line line ≡ false

pub lane_other : (name : List ℕ) (n : ℕ) → is_without 32 name ≡ true → same name (codes "new") ≡ false → IsOther (line_of_lane name n)
unfolding heading_of is_output_line
lane_other name n h other = record {
  entry = ap (λ ws. is_some (entry_in ws)) (lane_parted name n h) ∙ rw other refl;
  output = ap are_of_output (lane_parted name n h);
}

-- ---- one line after another

abbrev IsHeading : Heading → Type 0
IsHeading (OfLane line) = IsOther line
IsHeading (OfEntry line) = is_entry_line line ≡ true

abbrev AreHeadings : List Heading → Type 0
AreHeadings headings = AllByRecursion IsHeading headings

abbrev IsBelow : Place → Type 0
IsBelow AtTop = ⊥
IsBelow InLane = Unit {0}
IsBelow InEntry = Unit {0}

entry_stands : (place : Place) (line : List ℕ) → IsBelow place → is_entry_line line ≡ true → stands place line ≡ true
entry_stands AtTop line b h = absurd b
entry_stands InLane line b h = h
entry_stands InEntry line b h = ap (λ t. t || is_output_line line) h

output_stands : (line : List ℕ) → is_output_line line ≡ true → stands InEntry line ≡ true
output_stands line h = ap (λ t. is_entry_line line || t) h ∙ or_true (is_entry_line line)

lane_stands : (place : Place) (line : List ℕ) → IsOther line → stands place line ≡ false
lane_stands AtTop line h = refl
lane_stands InLane line h = h.entry
lane_stands InEntry line h = ap₂ (λ s t. s || t) h.entry h.output

goes_on : (lanes : List (List ℕ)) (place : Place) (n : ℕ) (line : List ℕ) (more : List (List ℕ)) → stands place line ≡ true
    → first_fault lanes place n [] (line ∷ more) ≡ first_fault lanes InEntry (n + 1) [] more
goes_on lanes place n line more h = rw (h, first_fault) refl

next_lane : (lanes : List (List ℕ)) (place : Place) (n : ℕ) (line : List ℕ) (more : List (List ℕ)) → stands place line ≡ false
    → first_fault (line ∷ lanes) place n [] (line ∷ more) ≡ first_fault lanes InLane (n + 1) [] more
next_lane lanes place n line more h = rw (h, same_self line, first_fault) refl

abbrev IsWhole : List (List ℕ) → Place → List (List ℕ) → Type 0
IsWhole lanes place lines = (n : ℕ) → first_fault lanes place n [] lines ≡ None

outputs_stand : (lanes : List (List ℕ)) (outs : List Output) (more : List (List ℕ)) → AreWritableOutputs outs → IsWhole lanes InEntry more
    → IsWhole lanes InEntry (map line_of_output outs ++ more)
outputs_stand lanes [] more h k n = k n
outputs_stand lanes (o ∷ outs) more h k n =
    goes_on lanes InEntry n (line_of_output o) (map line_of_output outs ++ more) (output_stands (line_of_output o) (outputs_have_form o h.0))
    ∙ outputs_stand lanes outs more h.1 k (n + 1)

abbrev lanes_in : List Heading → List (List ℕ)
lanes_in [] = []
lanes_in (OfLane line ∷ more) = line ∷ lanes_in more
lanes_in (OfEntry line ∷ more) = lanes_in more

woven_stand : (headings : List Heading) (outputs : List (List Output)) (place : Place) → IsBelow place → AreHeadings headings → AllByRecursion AreWritableOutputs outputs
    → IsWhole (lanes_in headings) place (woven headings outputs)
woven_stand [] outputs place b h k n = refl
woven_stand (OfLane line ∷ more) outputs place b h k n =
    next_lane (lanes_in more) place n line (woven more outputs) (lane_stands place line h.0) ∙ woven_stand more outputs InLane tt h.1 k (n + 1)
woven_stand (OfEntry line ∷ more) [] place b h k n =
    goes_on (lanes_in more) place n line (woven more []) (entry_stands place line b h.0) ∙ woven_stand more [] InEntry tt h.1 k (n + 1)
woven_stand (OfEntry line ∷ more) (outs ∷ outputs) place b h k n =
    goes_on (lanes_in more) place n line (map line_of_output outs ++ woven more outputs) (entry_stands place line b h.0)
    ∙ outputs_stand (lanes_in more) outs (woven more outputs) k.0 (woven_stand more outputs InEntry tt h.1 k.1) (n + 1)

-- ---- the headings of a book

control_headings : (entries : List ControlEntry) → AllByRecursion IsWritableControl entries → AreHeadings (map OfEntry (map line_of_control entries))
control_headings [] h = tt
control_headings (e ∷ entries) h = (ap is_some (headings_have_form.controls e h.0.0), control_headings entries h.1)

entry_headings : (entries : List Entry) → AllByRecursion IsWritableEntry entries → AreHeadings (map OfEntry (map line_of_entry entries))
entry_headings [] h = tt
entry_headings (e ∷ entries) h = (ap is_some (headings_have_form.entries e h.0.0), entry_headings entries h.1)

are_headings : (name : List ℕ) (number : ℕ) (lanes : List (List Entry)) → is_without 32 name ≡ true → same name (codes "new") ≡ false → AreWritableLanes lanes
    → AreHeadings (kind_headings name number lanes)
are_headings name number [] dark other h = tt
are_headings name number (lane ∷ more) dark other h = (
  lane_other name number dark other,
  all-append IsHeading (map OfEntry (map line_of_entry lane)) (kind_headings name (number + 1) more) (entry_headings lane h.0) (are_headings name (number + 1) more dark other h.1),
)

-- ---- the outputs of a book

outputs_of : {E : Type 0} (outs : E → List Output) (Is : E → Type 0) → ((e : E) → Is e → AreWritableOutputs (outs e)) → (entries : List E) → AllByRecursion Is entries
    → AllByRecursion AreWritableOutputs (map outs entries)
outputs_of outs Is f [] h = tt
outputs_of outs Is f (e ∷ entries) h = (f e h.0, outputs_of outs Is f entries h.1)

lane_outputs : (lanes : List (List Entry)) → AreWritableLanes lanes → AllByRecursion AreWritableOutputs (flat_map journal_outputs lanes)
lane_outputs [] h = tt
lane_outputs (lane ∷ lanes) h =
    all-append AreWritableOutputs (journal_outputs lane) (flat_map journal_outputs lanes) (outputs_of (λ (e : Entry). e.outs) IsWritableEntry (λ e k. k.1) lane h.0) (lane_outputs lanes h.1)

book_outputs : (book : Book) → IsPrintable book → AllByRecursion AreWritableOutputs (outputs_in book)
book_outputs book h =
    let control = map (λ (e : ControlEntry). e.outs) book.control in
    let conns = flat_map journal_outputs book.conns in
    let units = flat_map journal_outputs book.units in
    all-append AreWritableOutputs (control ++ conns) units
    (all-append AreWritableOutputs control conns (outputs_of (λ (e : ControlEntry). e.outs) IsWritableControl (λ e k. k.1) book.control h.control) (lane_outputs book.conns h.conns))
    (lane_outputs book.units h.units)

-- ---- the lanes of a book

lanes_behind_entries : (entries : List (List ℕ)) (more : List Heading) → lanes_in (map OfEntry entries ++ more) ≡ lanes_in more
lanes_behind_entries [] more = refl
lanes_behind_entries (line ∷ entries) more = lanes_behind_entries entries more

lanes_both : (first second : List Heading) → lanes_in (first ++ second) ≡ lanes_in first ++ lanes_in second
lanes_both [] second = refl
lanes_both (OfLane line ∷ more) second = ap (λ l. line ∷ l) (lanes_both more second)
lanes_both (OfEntry line ∷ more) second = lanes_both more second

kind_lanes : (name : List ℕ) (number : ℕ) (lanes : List (List Entry)) → lanes_in (kind_headings name number lanes) ≡ kind_lines name number (length lanes)
kind_lanes name number [] = refl
kind_lanes name number (lane ∷ more) =
    ap (λ l. line_of_lane name number ∷ l) (lanes_behind_entries (map line_of_entry lane) (kind_headings name (number + 1) more) ∙ kind_lanes name (number + 1) more)

-- ---- the print

below_control : Book → List Heading
below_control book = map OfEntry (map line_of_control book.control) ++ kind_headings (codes "conn") 0 book.conns ++ kind_headings (codes "data") 0 book.units

below_lanes : (book : Book) → lanes_in (below_control book) ≡ kind_lines (codes "conn") 0 (length book.conns) ++ kind_lines (codes "data") 0 (length book.units)
unfolding below_control
below_lanes book =
    let control = map OfEntry (map line_of_control book.control) in
    let conns = kind_headings (codes "conn") 0 book.conns in
    let units = kind_headings (codes "data") 0 book.units in
    lanes_both (control ++ conns) units
    ∙ ap₂ (λ l m. l ++ m) (lanes_behind_entries (map line_of_control book.control) conns ∙ kind_lanes (codes "conn") 0 book.conns) (kind_lanes (codes "data") 0 book.units)

below_headings : (book : Book) → IsPrintable book → AreHeadings (below_control book)
unfolding below_control
below_headings book h =
    let control = map OfEntry (map line_of_control book.control) in
    let conns = kind_headings (codes "conn") 0 book.conns in
    let units = kind_headings (codes "data") 0 book.units in
    all-append IsHeading (control ++ conns) units
    (all-append IsHeading control conns (control_headings book.control h.control) (are_headings (codes "conn") 0 book.conns refl refl h.conns))
    (are_headings (codes "data") 0 book.units refl refl h.units)

-- the first line is that of the control lane
lines_whole : (book : Book) → IsPrintable book → first_fault (lane_lines (length book.conns) (length book.units)) AtTop 1 [] (book_lines book) ≡ None
unfolding below_control lane_lines
lines_whole book h =
    let lanes = kind_lines (codes "conn") 0 (length book.conns) ++ kind_lines (codes "data") 0 (length book.units) in
    let rest = woven (below_control book) (outputs_in book) in
    next_lane lanes AtTop 1 (codes "= control") rest refl
    ∙ ap (λ l. first_fault l InLane 2 [] rest) (sym (below_lanes book))
    ∙ woven_stand (below_control book) (outputs_in book) InLane tt (below_headings book h) (book_outputs book h) 2

pub ended : (lines : List (List ℕ)) → ended_lines (lines ++ [] ∷ []) ≡ lines
ended lines =
    let size : length (lines ++ [] ∷ []) - 1 ≡ length lines = omega (arith, length-append lines ([] ∷ [])) in
    ap (λ n. take n (lines ++ [] ∷ [])) size ∙ take-append_seam lines ([] ∷ [])

last_none : (lines : List (List ℕ)) → last_piece (lines ++ [] ∷ []) ≡ []
last_none lines =
    let size : length (lines ++ [] ∷ []) - 1 ≡ length lines = omega (arith, length-append lines ([] ∷ [])) in
    ap (λ n. get_or (lines ++ [] ∷ []) n []) size ∙ get_or-append_seam lines [] [] []

pub print_has_form : PrintHasForm
unfolding form_fault
print_has_form book h =
    let lanes = lane_lines (length book.conns) (length book.units) in
    ap (fault_in lanes) (print_is_in_lines book).cut
    ∙ ap₂ (λ rest lines. first_fault lanes AtTop 1 rest lines) (last_none (book_lines book)) (ended (book_lines book))
    ∙ lines_whole book h
