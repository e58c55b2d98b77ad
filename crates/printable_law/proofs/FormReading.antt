-- What is read of a print.
use Rattle.std.proofs.Common.{◌≡◌, ◌∙◌, ℕ, suc, ◌+◌, ◌==◌, not, true, false, cond, List, [], ◌∷◌, ◌++◌, codes, length, drop, map, Option, Some, None, is_some, option_map, refl, sym, ap, ap₂, append_assoc, append-nil, arith, add-zero, subst}
use Rattle.std.proofs.lemmas.List.{drop-drop}
use Rattle.std.proofs.lemmas.List.Concat.{flat_map-append}
use Rattle.std.specs.Fmt.{decimal}
use Rattle.std.specs.List.{AllByRecursion, flat_map, onto_first, list_all}
use Rattle.relay_base.specs.declared.words.Output.{Output}
use Rattle.relay_base.specs.declared.words.Stamp.{Stamp}
use Rattle.plant_core.specs.declared.entry.Entry.{Entry}
use Rattle.plant_core.specs.declared.entry.ControlEntry.{ControlEntry}
use Rattle.journal_text.specs.Print.{stamp_text, asked_text, published_text}
use Rattle.journal_text.specs.declared.book.Book.{Book}
use Rattle.capture_generator.specs.Counts.{journal_outputs}
use Rattle.capture_generator.proofs.CaptureLemmas.{all-append}
use Rattle.capture_form.proofs.PhaseLemmas.{both-left}
use Rattle.book_output.specs.Print.{line_of_lane, line_of_control, line_of_entry, line_of_output, Heading, OfEntry, kind_headings, woven, book_lines, print_of}
use Rattle.book_output.proofs.LineLemmas.{print_is_in_lines}
use Rattle.journal_form.specs.Words.{same, parted, words}
use Rattle.journal_form.specs.Outputs.{is_output_line, are_of_output}
use Rattle.journal_form.specs.Headings.{EntryWords, heading_of}
use Rattle.journal_form.specs.Form.{ended_lines, kind_lines, lane_lines}
use Rattle.journal_form.specs.Parts.{EntryPart, LanePart, outs_front, entry_front, entry_at, entry_size, entries_size, lane_size, AreEntries, AreLanes}
use Rattle.journal_form.proofs.PartLemmas.{outs_no, outs_yes}
use Rattle.printable_law.specs.Written.{AreWritableOutputs, IsWritableEntry, IsWritableControl, AreWritableLanes, IsPrintable}
use Rattle.printable_law.specs.Printed.{PrintedEntry, PrintedLane, printed_entry, printed_control, printed_kind, printed, read_entry, read_lane}
use Rattle.printable_law.specs.FormLaw.{LanesHaveForm, PrintIsRead}
use Rattle.printable_law.proofs.FormWords.{is_without, is_no}
use Rattle.printable_law.proofs.Fields.{number_without}
use Rattle.printable_law.proofs.Outputs.{outputs_have_form}
use Rattle.printable_law.proofs.Headings.{headings_have_form}
use Rattle.printable_law.proofs.Print.{IsOther, lane_other, ended}

-- ---- the line of an entry is that of no output

front_octet : (b : ℕ) (line : List ℕ) → (b == 32) ≡ false → is_output_line (b ∷ line) ≡ false
unfolding is_output_line
front_octet b line h = ap (λ t. are_of_output (cond t ([] ∷ words line) (onto_first b (words line)))) h ∙ of_words (words line)
  where
    of_words : (parts : List (List ℕ)) → are_of_output (onto_first b parts) ≡ false
    of_words [] = refl
    of_words (part ∷ parts) = refl

stamped : (phase link line more : List ℕ) → is_without 32 phase ≡ true → is_output_line (phase ++ 46 ∷ [] ++ link ++ 46 ∷ [] ++ line ++ more) ≡ false
stamped [] link line more h = front_octet 46 (link ++ 46 ∷ [] ++ line ++ more) refl
stamped (b ∷ bs) link line more h =
    front_octet b (bs ++ 46 ∷ [] ++ link ++ 46 ∷ [] ++ line ++ more) (is_no (b == 32) (both-left (not (b == 32)) (list_all (λ b. not (b == 32)) bs) h))

no_output : (s : Stamp) (more : List ℕ) → is_output_line (stamp_text s ++ more) ≡ false
no_output s more = stamped (decimal s.phase) (decimal s.link) (decimal s.line) more (number_without 32 s.phase (omega arith))

-- ---- the lines of lanes and entries

abbrev pub lines_of_entry : PrintedEntry → List (List ℕ)
lines_of_entry e = e.text ∷ e.outs

abbrev pub lines_of_entries : List PrintedEntry → List (List ℕ)
lines_of_entries es = flat_map lines_of_entry es

abbrev pub lines_of_lane : PrintedLane → List (List ℕ)
lines_of_lane lane = lane.text ∷ lines_of_entries lane.entries

abbrev pub lines_of_lanes : List PrintedLane → List (List ℕ)
lines_of_lanes lanes = flat_map lines_of_lane lanes

-- each of them is what it should be, and nothing else
record IsGood (e : PrintedEntry) : Type 0 where
  heading : heading_of e.text ≡ Some e.words
  other : is_output_line e.text ≡ false
  outs : AllByRecursion (λ (line : List ℕ). is_output_line line ≡ true) e.outs

record IsGoodLane (lane : PrintedLane) : Type 0 where
  text : IsOther lane.text
  entries : AllByRecursion IsGood lane.entries

-- ---- what is read of them

-- neither an entry nor an output stands at the front
record Stops (lines : List (List ℕ)) : Type 0 where
  entry : (n : ℕ) → entry_front n lines ≡ None
  output : outs_front lines ≡ []

no_heading : (h : Option EntryWords) → is_some h ≡ false → h ≡ None
no_heading None e = refl
no_heading (Some w) e = cc

lanes_stop : (lanes : List PrintedLane) → AllByRecursion IsGoodLane lanes → Stops (lines_of_lanes lanes)
lanes_stop [] h = record { entry = λ n. refl; output = refl }
lanes_stop (lane ∷ lanes) h =
    let rest = lines_of_entries lane.entries ++ lines_of_lanes lanes in
    record {
      entry = λ n. ap (λ o. option_map (λ w. record { number = n; text = lane.text; words = w; outs = outs_front rest }) o) (no_heading (heading_of lane.text) h.0.text.entry);
      output = outs_no lane.text rest h.0.text.output;
    }

outs_are : (outs rest : List (List ℕ)) → AllByRecursion (λ (line : List ℕ). is_output_line line ≡ true) outs → outs_front rest ≡ [] → outs_front (outs ++ rest) ≡ outs
outs_are [] rest h k = k
outs_are (line ∷ outs) rest h k = outs_yes line (outs ++ rest) h.0 ∙ ap (λ l. line ∷ l) (outs_are outs rest h.1 k)

-- the outputs of an entry end where the next entry or the next lane begins
outs_stop : (es : List PrintedEntry) (more : List (List ℕ)) → AllByRecursion IsGood es → outs_front more ≡ [] → outs_front (lines_of_entries es ++ more) ≡ []
outs_stop [] more h k = k
outs_stop (e ∷ es) more h k = outs_no e.text ((e.outs ++ lines_of_entries es) ++ more) h.0.other

-- the entry that is read at the front
front_read : (n : ℕ) (e : PrintedEntry) (rest : List (List ℕ)) → IsGood e → outs_front rest ≡ []
    → entry_front n (e.text ∷ (e.outs ++ rest)) ≡ Some (record { number = n; text = e.text; words = e.words; outs = e.outs })
front_read n e rest h k =
    ap (λ o. option_map (λ w. record { number = n; text = e.text; words = w; outs = outs_front (e.outs ++ rest) }) o) h.heading
    ∙ ap (λ outs. Some (record { number = n; text = e.text; words = e.words; outs = outs })) (outs_are e.outs rest h.outs k)

drop_front : (first rest : List (List ℕ)) → drop (length first) (first ++ rest) ≡ rest
drop_front [] rest = refl
drop_front (line ∷ first) rest = drop_front first rest

drop_entry : (line : List ℕ) (outs rest : List (List ℕ)) → drop (1 + length outs) (line ∷ (outs ++ rest)) ≡ rest
drop_entry line outs rest =
    let one : 1 + length outs ≡ suc (length outs) = omega arith in
    ap (λ n. drop n (line ∷ (outs ++ rest))) one ∙ drop_front outs rest

record EntriesRead (at : ℕ) (lines : List (List ℕ)) (es : List PrintedEntry) (more : List (List ℕ)) (read : List EntryPart) : Type 0 where
  same : map read_entry read ≡ es
  left : drop (at + entries_size read) lines ≡ more

some_none : {A B : Type 0} (o : Option A) (x : A) → o ≡ Some x → o ≡ None → B
some_none None x h k = cc
some_none (Some y) x h k = cc

entries_read : (at : ℕ) (lines : List (List ℕ)) (es : List PrintedEntry) (more : List (List ℕ)) (read : List EntryPart) → AllByRecursion IsGood es → Stops more
    → drop at lines ≡ lines_of_entries es ++ more → AreEntries at lines read → entry_at (at + entries_size read) lines ≡ None → EntriesRead at lines es more read
entries_read at lines [] more [] g s h are end = record { same = refl; left = ap (λ n. drop n lines) (add-zero at) ∙ h }
entries_read at lines [] more (e ∷ read) g s h are end = some_none (entry_at at lines) e are.0 (ap (entry_front (at + 1)) h ∙ s.entry (at + 1))
entries_read at lines (e ∷ es) more [] g s h are end =
    let rest = lines_of_entries es ++ more in
    let front : entry_at at lines ≡ Some (record { number = at + 1; text = e.text; words = e.words; outs = e.outs }) =
    ap (entry_front (at + 1)) (h ∙ ap (λ l. e.text ∷ l) (append_assoc e.outs (lines_of_entries es) more)) ∙ front_read (at + 1) e rest g.0 (outs_stop es more g.1 s.output) in
    some_none (entry_at at lines) (record { number = at + 1; text = e.text; words = e.words; outs = e.outs }) front (ap (λ n. entry_at n lines) (sym (add-zero at)) ∙ end)
entries_read at lines (e ∷ es) more (r ∷ read) g s h are end =
    let rest = lines_of_entries es ++ more in
    let part : EntryPart = record { number = at + 1; text = e.text; words = e.words; outs = e.outs } in
    let here : drop at lines ≡ e.text ∷ (e.outs ++ rest) = h ∙ ap (λ l. e.text ∷ l) (append_assoc e.outs (lines_of_entries es) more) in
    let front : entry_at at lines ≡ Some part = ap (entry_front (at + 1)) here ∙ front_read (at + 1) e rest g.0 (outs_stop es more g.1 s.output) in
    let is : r ≡ part = one_entry r part (sym are.0 ∙ front) in
    let behind : drop (at + entry_size r) lines ≡ rest =
    ap (λ (p : EntryPart). drop (at + entry_size p) lines) is ∙ sym (drop-drop (1 + length e.outs) at lines) ∙ ap (drop (1 + length e.outs)) here ∙ drop_entry e.text e.outs rest in
    let place : at + (entry_size r + entries_size read) ≡ (at + entry_size r) + entries_size read = omega arith in
    let later = entries_read (at + entry_size r) lines es more read g.1 s behind are.1 (ap (λ n. entry_at n lines) (sym place) ∙ end) in
    record {
      same = ap₂ (λ (p : EntryPart) l. read_entry p ∷ l) is later.same;
      left = ap (λ n. drop n lines) place ∙ later.left;
    }
  where
    one_entry : (r part : EntryPart) → Some r ≡ Some part → r ≡ part
    one_entry r part e = cc

lanes_read : (at : ℕ) (lines : List (List ℕ)) (lanes : List PrintedLane) (read : List LanePart) → AllByRecursion IsGoodLane lanes
    → drop at lines ≡ lines_of_lanes lanes → AreLanes at lines (map (λ (lane : PrintedLane). lane.text) lanes) read → map read_lane read ≡ lanes
lanes_read at lines [] [] g h are = refl
lanes_read at lines [] (r ∷ read) g h are = absurd are
lanes_read at lines (lane ∷ lanes) [] g h are = absurd are
lanes_read at lines (lane ∷ lanes) (r ∷ read) g h are =
    let under : drop (at + 1) lines ≡ lines_of_entries lane.entries ++ lines_of_lanes lanes = ap (drop 1) (sym are.0.line ∙ h) in
    let place : at + (1 + entries_size r.entries) ≡ (at + 1) + entries_size r.entries = omega arith in
    let here = entries_read (at + 1) lines lane.entries (lines_of_lanes lanes) r.entries g.0.entries (lanes_stop lanes g.1) under are.0.entries (ap (λ n. entry_at n lines) (sym place) ∙ are.0.end) in
    let left : drop (at + lane_size r) lines ≡ lines_of_lanes lanes = ap (λ n. drop n lines) place ∙ here.left in
    ap₂ (λ (l : PrintedLane) more. l ∷ more)
    (ap₂ (λ text entries. record { text = text; entries = entries }) are.0.text here.same)
    (lanes_read (at + lane_size r) lines lanes read g.1 left are.1)

-- ---- the lines of a book are those of its lanes

abbrev made : {E : Type 0} → (E → List ℕ) → (E → EntryWords) → (E → List Output) → E → PrintedEntry
made line says outs e = record { text = line e; words = says e; outs = map line_of_output (outs e) }

woven_entries : {E : Type 0} (line : E → List ℕ) (says : E → EntryWords) (outs : E → List Output) (entries : List E) (more : List Heading) (outputs : List (List Output))
    → woven (map OfEntry (map line entries) ++ more) (map outs entries ++ outputs) ≡ lines_of_entries (map (made line says outs) entries) ++ woven more outputs
woven_entries line says outs [] more outputs = refl
woven_entries line says outs (e ∷ entries) more outputs =
    let here = map line_of_output (outs e) in
    ap (λ l. line e ∷ l) (
    ap (λ l. here ++ l) (woven_entries line says outs entries more outputs)
    ∙ sym (append_assoc here (lines_of_entries (map (made line says outs) entries)) (woven more outputs)))

abbrev says_entry : Entry → EntryWords
says_entry e = (printed_entry e).words

abbrev says_control : ControlEntry → EntryWords
says_control e = (printed_control e).words

woven_lanes : (name : List ℕ) (number : ℕ) (lanes : List (List Entry)) (more : List Heading) (outputs : List (List Output))
    → woven (kind_headings name number lanes ++ more) (flat_map journal_outputs lanes ++ outputs) ≡ lines_of_lanes (printed_kind name number lanes) ++ woven more outputs
woven_lanes name number [] more outputs = refl
woven_lanes name number (lane ∷ lanes) more outputs =
    let behind = kind_headings name (number + 1) lanes in
    let rest = flat_map journal_outputs lanes in
    let here = lines_of_entries (map printed_entry lane) in
    ap (λ l. line_of_lane name number ∷ l) (
    ap₂ woven (append_assoc (map OfEntry (map line_of_entry lane)) behind more) (append_assoc (journal_outputs lane) rest outputs)
    ∙ woven_entries line_of_entry says_entry (λ (e : Entry). e.outs) lane (behind ++ more) (rest ++ outputs)
    ∙ ap (λ l. here ++ l) (woven_lanes name (number + 1) lanes more outputs)
    ∙ sym (append_assoc here (lines_of_lanes (printed_kind name (number + 1) lanes)) (woven more outputs)))

pub book_printed : (book : Book) → book_lines book ≡ lines_of_lanes (printed book)
book_printed book =
    let control = map OfEntry (map line_of_control book.control) in
    let conns = kind_headings (codes "conn") 0 book.conns in
    let units = kind_headings (codes "data") 0 book.units in
    let of_control = map (λ (e : ControlEntry). e.outs) book.control in
    let of_conns = flat_map journal_outputs book.conns in
    let of_units = flat_map journal_outputs book.units in
    let first = lines_of_entries (map printed_control book.control) in
    let second = printed_kind (codes "conn") 0 book.conns in
    let third = printed_kind (codes "data") 0 book.units in
    let last : woven units of_units ≡ lines_of_lanes third =
    ap₂ woven (sym (append-nil units)) (sym (append-nil of_units)) ∙ woven_lanes (codes "data") 0 book.units [] [] ∙ append-nil (lines_of_lanes third) in
    ap (λ l. codes "= control" ∷ l) (
    ap₂ woven (append_assoc control conns units) (append_assoc of_control of_conns of_units)
    ∙ woven_entries line_of_control says_control (λ (e : ControlEntry). e.outs) book.control (conns ++ units) (of_conns ++ of_units)
    ∙ ap (λ l. first ++ l) (woven_lanes (codes "conn") 0 book.conns units of_units ∙ ap (λ l. lines_of_lanes second ++ l) last ∙ sym (flat_map-append lines_of_lane second third)))

-- ---- and each of these is good

outs_good : (outs : List Output) → AreWritableOutputs outs → AllByRecursion (λ (line : List ℕ). is_output_line line ≡ true) (map line_of_output outs)
outs_good [] h = tt
outs_good (o ∷ outs) h = (outputs_have_form o h.0, outs_good outs h.1)

all_good : {E : Type 0} (made : E → PrintedEntry) (Is : E → Type 0) → ((e : E) → Is e → IsGood (made e)) → (entries : List E) → AllByRecursion Is entries → AllByRecursion IsGood (map made entries)
all_good made Is f [] h = tt
all_good made Is f (e ∷ entries) h = (f e h.0, all_good made Is f entries h.1)

entry_good : (e : Entry) → IsWritableEntry e → IsGood (printed_entry e)
entry_good e h = record { heading = headings_have_form.entries e h.0; other = no_output e.stamp (asked_text e.asked); outs = outs_good e.outs h.1 }

control_good : (e : ControlEntry) → IsWritableControl e → IsGood (printed_control e)
control_good e h = record { heading = headings_have_form.controls e h.0; other = no_output e.stamp (published_text e.published); outs = outs_good e.outs h.1 }

kind_good : (name : List ℕ) (number : ℕ) (lanes : List (List Entry)) → is_without 32 name ≡ true → same name (codes "new") ≡ false → AreWritableLanes lanes
    → AllByRecursion IsGoodLane (printed_kind name number lanes)
kind_good name number [] dark other h = tt
kind_good name number (lane ∷ more) dark other h = (
  record { text = lane_other name number dark other; entries = all_good printed_entry IsWritableEntry entry_good lane h.0 },
  kind_good name (number + 1) more dark other h.1,
)

control_other : IsOther (codes "= control")
unfolding heading_of is_output_line
control_other = record { entry = refl; output = refl }

printed_good : (book : Book) → IsPrintable book → AllByRecursion IsGoodLane (printed book)
printed_good book h = (
  record { text = control_other; entries = all_good printed_control IsWritableControl control_good book.control h.control },
  all-append IsGoodLane (printed_kind (codes "conn") 0 book.conns) (printed_kind (codes "data") 0 book.units)
      (kind_good (codes "conn") 0 book.conns refl refl h.conns) (kind_good (codes "data") 0 book.units refl refl h.units),
)

abbrev names_of : List PrintedLane → List (List ℕ)
names_of lanes = map (λ (lane : PrintedLane). lane.text) lanes

names_both : (first second : List PrintedLane) → names_of (first ++ second) ≡ names_of first ++ names_of second
names_both [] second = refl
names_both (lane ∷ first) second = ap (λ l. lane.text ∷ l) (names_both first second)

kind_names : (name : List ℕ) (number : ℕ) (lanes : List (List Entry)) → names_of (printed_kind name number lanes) ≡ kind_lines name number (length lanes)
kind_names name number [] = refl
kind_names name number (lane ∷ more) = ap (λ l. line_of_lane name number ∷ l) (kind_names name (number + 1) more)

book_names : (book : Book) → lane_lines (length book.conns) (length book.units) ≡ names_of (printed book)
unfolding lane_lines
book_names book =
    let conns = printed_kind (codes "conn") 0 book.conns in
    let units = printed_kind (codes "data") 0 book.units in
    ap (λ l. codes "= control" ∷ l) (sym (names_both conns units ∙ ap₂ (λ l m. l ++ m) (kind_names (codes "conn") 0 book.conns) (kind_names (codes "data") 0 book.units)))

pub lanes_have_form : LanesHaveForm
lanes_have_form = record { line = λ name number. refl; lines = λ book. sym (book_names book) }

pub print_is_read : PrintIsRead
print_is_read book lanes h form =
    let lines = ended_lines (parted 10 (print_of book)) in
    let are : lines ≡ lines_of_lanes (printed book) = ap ended_lines (print_is_in_lines book).cut ∙ ended (book_lines book) ∙ book_printed book in
    lanes_read 0 lines (printed book) lanes (printed_good book h) are (subst (λ names. AreLanes 0 lines names lanes) (book_names book) form.stand)
