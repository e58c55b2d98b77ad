-- The laws of what is found of a text.
use Rattle.std.proofs.Common.{◌≡◌, ◌∙◌, ℕ, zero, suc, ◌+◌, List, [], ◌∷◌, ◌++◌, codes, length, map, take, drop, Option, Some, None, Result, Ok, Err, refl, sym, ap, ap₂, subst}
use Rattle.std.specs.List.{AllByRecursion, flat_map}
use Rattle.std.proofs.Math.Seq.{take-append_seam, drop-append_seam}
use Rattle.std.proofs.lemmas.List.{take-append-drop, take-map, drop-map, length-map}
use Rattle.std.proofs.lemmas.List.Concat.{flat_map-append}
use Rattle.std.proofs.lemmas.List.Folds.{flat_map-map}
use Rattle.relay_base.specs.declared.words.Event.{Event}
use Rattle.plant_core.specs.declared.entry.ControlEntry.{ControlEntry}
use Rattle.plant_core.specs.declared.entry.Entry.{Entry}
use Rattle.section_model.specs.Journals.{IsConnJournal}
use Rattle.data_lane.specs.Legal.{IsDataJournal}
use Rattle.node_head.specs.declared.head.Head.{Head}
use Rattle.journal_text.specs.declared.book.Book.{Book}
use Rattle.capture_form.specs.Events.{Stamped}
use Rattle.book_output.specs.Print.{print_of}
use Rattle.journal_form.specs.Form.{ended_lines, kind_lines, lane_lines, form_fault}
use Rattle.journal_form.specs.Headings.{EntryWords}
use Rattle.journal_form.specs.Parts.{EntryPart, LanePart, HasForm, lane_size, entry_lines, lines_of}
use Rattle.journal_form.specs.Stamps.{stamp_of}
use Rattle.journal_form.specs.Words.{parted}
use Rattle.printable_law.specs.Printed.{PrintedEntry, PrintedLane, printed, printed_entry, printed_control, printed_kind, read_entry, read_lane, entry_words}
use Rattle.printable_law.specs.Written.{IsWritableEntry, IsWritableControl, IsPrintable}
use Rattle.printable_law.specs.FormLaw.{IsStamp}
use Rattle.printable_law.proofs.FormReading.{lines_of_entry, lines_of_entries, lines_of_lane, lines_of_lanes}
use Rattle.printable_law.proofs.Stamps.{stamps_are_read}
use Rattle.right_book.specs.Heads.{lane_head_of}
use Rattle.right_book.specs.Lanes.{LaneKind, LanesFrom, IsServed, conn_kind, data_kind}
use Rattle.right_book.specs.Right.{IsRight}
use Rattle.right_book.proofs.ListLemmas.{weaker-two, lanes-weaker}
use Rattle.printable_law.specs.PrintableLaw.{HasStamps}
use Rattle.printable_law.proofs.Printable.{prints_have_form, right_is_printable}
use Rattle.printable_law.proofs.Stamping.{right_is_stamped}
use Rattle.journal_finding.specs.declared.finding.Fault.{Fault}
use Rattle.journal_finding.specs.declared.finding.FindingKind.TheVariants.{Form}
use Rattle.journal_finding.specs.Entries.{LaneRules, ◌>>=◌}
use Rattle.journal_finding.specs.Lanes.{control_rules, conn_rules, data_rules, conn_outs, data_outs}
use Rattle.journal_finding.specs.Finding.{journal_in, journals_in, book_in, FindsInLanes, FindsBy, Finds}
use Rattle.finding_law.specs.FindingLaw.{IsPrintOfRight, FoundIsRight, RightIsFound, FoundOnce, IsFoundOf, SomethingIsFound, LegalIsRight}
use Rattle.finding_law.proofs.Steps.{SaysEdition, IsPartOf}
use Rattle.finding_law.proofs.Once.{one_form}
use Rattle.finding_law.proofs.Forms.{has_lanes}
use Rattle.finding_law.proofs.Lanes.{control_has, control_right, control_found, Outs, HasLaw, conn_law, data_law, kind_rules, kind_has, IsOfKind, kind_right, kind_found, IsFound, found}
use Rattle.finding_law.proofs.KindLanes.{AreOfLanes, IsOfLines, are_right, are_found}
use Rattle.finding_law.proofs.Results.{behind}
use Rattle.finding_law.proofs.Texts.{names_are, text_is, says, IsReadable, IsReadableControl, parts_are}

-- ---- one thing is found

pub found_once : FoundOnce
found_once head phases text one other f g = of_fault (form_fault (lane_lines head.conn_lanes head.data_lanes) text) f g
  where
    of_fault : (fault : Option ℕ) → FindsBy head phases text one fault → FindsBy head phases text other fault → one ≡ other
    of_fault (Some line) f g = f ∙ sym g
    of_fault None f g =
        f.is ∙ ap (book_in head phases) (one_form (lane_lines head.conn_lanes head.data_lanes) text f.lanes g.lanes f.have g.have) ∙ sym g.is

-- ---- something is found

pub something_is_found : SomethingIsFound
something_is_found head phases text = of_fault (form_fault names text) refl
  where
    names : List (List ℕ)
    names = lane_lines head.conn_lanes head.data_lanes

    by : (fault : Option ℕ) → form_fault names text ≡ fault → (found : Result Book Fault) → FindsBy head phases text found fault → IsFoundOf head phases text
    by fault e found finds = record { found = found; finds = subst (FindsBy head phases text found) (sym e) finds }

    of_fault : (fault : Option ℕ) → form_fault names text ≡ fault → IsFoundOf head phases text
    of_fault (Some line) e = by (Some line) e (Err (record { line = line; kind = Form })) refl
    of_fault None e =
        let form = has_lanes names text e in
        by None e (book_in head phases form.lanes) (record { lanes = form.lanes; have = form.have; is = refl })

-- ---- lanes

lanes_two : {A : Type 0} (P Q R : ℕ → A → Type 0) → ((k : ℕ) (x : A) → P k x → Q k x → R k x) → (n : ℕ) (xs : List A) → LanesFrom P n xs → LanesFrom Q n xs → LanesFrom R n xs
lanes_two P Q R both n [] f g = tt
lanes_two P Q R both n (x ∷ xs) f g = (both n x f.0 g.0, lanes_two P Q R both (n + 1) xs f.1 g.1)

-- a kind of lane by its number: what comes of an event, and which journals are legal
module _ (kind : LaneKind) (outs : ℕ → Outs) (Legal : ℕ → List Entry → Type 0) (law : (number : ℕ) → HasLaw kind (outs number) (Legal number)) (head : Head) (phases : List (List Stamped))
    (control : List ControlEntry) where
  abbrev rules : ℕ → LaneRules Event Entry
  rules number = kind_rules kind (outs number) number head phases control

  abbrev IsLane : ℕ → List Entry → Type 0
  IsLane number journal = IsOfKind kind (outs number) number head phases control (Legal number) journal

  lane_right : (number : ℕ) (lane : LanePart) (journal : List Entry) → journal_in (rules number) lane ≡ Ok journal → IsOfLines IsLane number lane journal
  lane_right number lane journal h =
      let f = found (rules number) (kind_has kind (outs number) number head phases control) lane journal h in
      record {
        is = kind_right kind (outs number) number head phases control (Legal number) (law number) lane.entries journal f;
        lines = f.lines ∙ sym (flat_map-map lines_of_entry printed_entry journal);
      }

  entry_part : (number : ℕ) (e : Entry) (part : EntryPart) → IsReadable e → read_entry part ≡ printed_entry e → IsPartOf (rules number) e part
  entry_part number e part is h =
      let text = ap (λ (x : PrintedEntry). x.text) h in
      let lines = ap (λ (x : PrintedEntry). x.outs) h in
      let words : part.words ≡ entry_words e.stamp e.asked None = ap (λ (x : PrintedEntry). x.words) h in
      record {
        lines = ap₂ (λ (l : List ℕ) (m : List (List ℕ)). l ∷ m) text lines;
        stamp = ap stamp_of words ∙ stamps_are_read e.stamp e.asked None is.0;
        asked = subst (λ (w : EntryWords). SaysEdition e.asked w.asked) (sym words) (says e.asked is.1.0.1.1.1);
      }

  lane_found : (number : ℕ) (lane : LanePart) (journal : List Entry) → IsLane number journal → AllByRecursion IsReadable journal → map read_entry lane.entries ≡ map printed_entry journal
      → journal_in (rules number) lane ≡ Ok journal
  lane_found number lane journal is readable h =
      kind_found kind (outs number) number head phases control (Legal number) (law number) lane journal is
      (parts_are (rules number) printed_entry IsReadable (entry_part number) journal lane.entries readable h)

-- ---- the lanes of a text, by their kinds

kind_size : (name : List ℕ) (number count : ℕ) → length (kind_lines name number count) ≡ count
kind_size name number zero = refl
kind_size name number (suc count) = ap suc (kind_size name (number + 1) count)

printed_size : (name : List ℕ) (number : ℕ) (lanes : List (List Entry)) → length (printed_kind name number lanes) ≡ length lanes
printed_size name number [] = refl
printed_size name number (lane ∷ lanes) = ap suc (printed_size name (number + 1) lanes)

first_of : {A : Type 0} (n : ℕ) (xs ys : List A) → length xs ≡ n → take n (xs ++ ys) ≡ xs
first_of n xs ys h = ap (λ m. take m (xs ++ ys)) (sym h) ∙ take-append_seam xs ys

rest_of : {A : Type 0} (n : ℕ) (xs ys : List A) → length xs ≡ n → drop n (xs ++ ys) ≡ ys
rest_of n xs ys h = ap (λ m. drop m (xs ++ ys)) (sym h) ∙ drop-append_seam xs ys

abbrev names_of : List LanePart → List (List ℕ)
names_of lanes = map (λ (lane : LanePart). lane.text) lanes

names_size : (lanes : List LanePart) (name : List ℕ) (count : ℕ) → names_of lanes ≡ kind_lines name 0 count → length lanes ≡ count
names_size lanes name count h = sym (length-map {B = List ℕ} lanes (λ lane. lane.text)) ∙ ap length h ∙ kind_size name 0 count

counted : (lanes : List LanePart) (name : List ℕ) (count : ℕ) → names_of lanes ≡ kind_lines name 0 count → names_of lanes ≡ kind_lines name 0 (length lanes)
counted lanes name count h = h ∙ ap (kind_lines name 0) (sym (names_size lanes name count h))

-- the lanes behind the control lane, by their names
record HasKinds (head : Head) (more : List LanePart) : Type 0 where
  conns : names_of (take head.conn_lanes more) ≡ kind_lines (codes "conn") 0 head.conn_lanes
  units : names_of (drop head.conn_lanes more) ≡ kind_lines (codes "data") 0 head.data_lanes

has_kinds : (head : Head) (more : List LanePart) → names_of more ≡ kind_lines (codes "conn") 0 head.conn_lanes ++ kind_lines (codes "data") 0 head.data_lanes → HasKinds head more
has_kinds head more names =
    let count = head.conn_lanes in
    let conns = kind_lines (codes "conn") 0 count in
    let units = kind_lines (codes "data") 0 head.data_lanes in
    let size = kind_size (codes "conn") 0 count in
    record {
      conns = sym (take-map (λ (l : LanePart). l.text) count more) ∙ ap (take count) names ∙ first_of count conns units size;
      units = sym (drop-map (λ (l : LanePart). l.text) count more) ∙ ap (drop count) names ∙ rest_of count conns units size;
    }

-- the lines of lanes of two kinds
lines_both : (count : ℕ) (lanes : List LanePart) (conns units : List PrintedLane) → flat_map lines_of (take count lanes) ≡ lines_of_lanes conns → flat_map lines_of (drop count lanes) ≡ lines_of_lanes units
    → flat_map lines_of lanes ≡ lines_of_lanes (conns ++ units)
lines_both count lanes conns units f g =
    ap (flat_map lines_of) (sym (take-append-drop count lanes)) ∙ flat_map-append lines_of (take count lanes) (drop count lanes)
    ∙ ap₂ (λ l m. l ++ m) f g ∙ sym (flat_map-append lines_of_lane conns units)

-- ---- a book that is found

abbrev IsConn : Head → List (List Stamped) → List ControlEntry → ℕ → List Entry → Type 0
IsConn head phases control = IsLane (conn_kind head) (conn_outs head) (IsConnJournal (lane_head_of head)) (conn_law head) head phases control

abbrev IsData : Head → List (List Stamped) → List ControlEntry → ℕ → List Entry → Type 0
IsData head phases control = IsLane data_kind (data_outs head) (IsDataJournal (lane_head_of head)) (data_law head) head phases control

-- the journals of a book are found of the lanes of a text
record IsBookOf (head : Head) (phases : List (List Stamped)) (lane : LanePart) (more : List LanePart) (book : Book) : Type 0 where
  control : IsFound (control_rules head phases) (control_has head phases) lane.entries book.control
  conns : AreOfLanes (IsConn head phases book.control) (codes "conn") 0 (take head.conn_lanes more) book.conns
  units : AreOfLanes (IsData head phases book.control) (codes "data") 0 (drop head.conn_lanes more) book.units

abbrev of_parts : List ControlEntry → List (List Entry) → List (List Entry) → Book
of_parts control conns units = record { control = control; conns = conns; units = units }

abbrev of_lanes : List ControlEntry → List (List Entry) → List (List Entry) → Result Book Fault
of_lanes control conns units = Ok (of_parts control conns units)

same_book : (x y : Book) → ◌≡◌ {A = Result Book Fault} (Ok x) (Ok y) → x ≡ y
same_book x y h = cc

module _ (head : Head) (phases : List (List Stamped)) (lane : LanePart) (more : List LanePart) (kinds : HasKinds head more) where
  conns_of : (control : List ControlEntry) (journals : List (List Entry)) → journals_in (conn_rules head phases control) 0 (take head.conn_lanes more) ≡ Ok journals
      → AreOfLanes (IsConn head phases control) (codes "conn") 0 (take head.conn_lanes more) journals
  conns_of control journals h =
      are_right (conn_rules head phases control) (IsConn head phases control) (lane_right (conn_kind head) (conn_outs head) (IsConnJournal (lane_head_of head)) (conn_law head) head phases control)
      (codes "conn") 0 (take head.conn_lanes more) journals (counted (take head.conn_lanes more) (codes "conn") head.conn_lanes kinds.conns) h

  units_of : (control : List ControlEntry) (journals : List (List Entry)) → journals_in (data_rules head phases control) 0 (drop head.conn_lanes more) ≡ Ok journals
      → AreOfLanes (IsData head phases control) (codes "data") 0 (drop head.conn_lanes more) journals
  units_of control journals h =
      are_right (data_rules head phases control) (IsData head phases control) (lane_right data_kind (data_outs head) (IsDataJournal (lane_head_of head)) (data_law head) head phases control)
      (codes "data") 0 (drop head.conn_lanes more) journals (counted (drop head.conn_lanes more) (codes "data") head.data_lanes kinds.units) h

  book_of : (book : Book) → book_in head phases (lane ∷ more) ≡ Ok book → IsBookOf head phases lane more book
  book_of book h =
      let c = behind (journal_in (control_rules head phases) lane)
      (λ control. journals_in (conn_rules head phases control) 0 (take head.conn_lanes more) >>= λ js. journals_in (data_rules head phases control) 0 (drop head.conn_lanes more) >>= λ ks. of_lanes control js ks) book h in
      of_control c.first c.is c.then
    where
      of_units : (control : List ControlEntry) (js ks : List (List Entry)) → journal_in (control_rules head phases) lane ≡ Ok control
          → journals_in (conn_rules head phases control) 0 (take head.conn_lanes more) ≡ Ok js → journals_in (data_rules head phases control) 0 (drop head.conn_lanes more) ≡ Ok ks
          → of_lanes control js ks ≡ Ok book → IsBookOf head phases lane more book
      of_units control js ks f g k then = subst (IsBookOf head phases lane more) (same_book (of_parts control js ks) book then) (record {
        control = found (control_rules head phases) (control_has head phases) lane control f;
        conns = conns_of control js g;
        units = units_of control ks k;
      })

      of_conns : (control : List ControlEntry) (js : List (List Entry)) → journal_in (control_rules head phases) lane ≡ Ok control
          → journals_in (conn_rules head phases control) 0 (take head.conn_lanes more) ≡ Ok js
          → (journals_in (data_rules head phases control) 0 (drop head.conn_lanes more) >>= λ ks. of_lanes control js ks) ≡ Ok book → IsBookOf head phases lane more book
      of_conns control js f g then =
          let k = behind (journals_in (data_rules head phases control) 0 (drop head.conn_lanes more)) (λ ks. of_lanes control js ks) book then in
          of_units control js k.first f g k.is k.then

      of_control : (control : List ControlEntry) → journal_in (control_rules head phases) lane ≡ Ok control
          → (journals_in (conn_rules head phases control) 0 (take head.conn_lanes more) >>= λ js. journals_in (data_rules head phases control) 0 (drop head.conn_lanes more) >>= λ ks. of_lanes control js ks) ≡ Ok book
          → IsBookOf head phases lane more book
      of_control control f then =
          let j = behind (journals_in (conn_rules head phases control) 0 (take head.conn_lanes more))
          (λ js. journals_in (data_rules head phases control) 0 (drop head.conn_lanes more) >>= λ ks. of_lanes control js ks) book then in
          of_conns control j.first f j.is j.then

  lines_are : (book : Book) → IsBookOf head phases lane more book → lane.text ≡ codes "= control" → flat_map lines_of (lane ∷ more) ≡ lines_of_lanes (printed book)
  lines_are book is text =
      let entries : flat_map entry_lines lane.entries ≡ lines_of_entries (map printed_control book.control) = is.control.lines ∙ sym (flat_map-map lines_of_entry printed_control book.control) in
      ap₂ (λ l m. l ++ m) (ap₂ (λ (l : List ℕ) (m : List (List ℕ)). l ∷ m) text entries)
      (lines_both head.conn_lanes more (printed_kind (codes "conn") 0 book.conns) (printed_kind (codes "data") 0 book.units) is.conns.lines is.units.lines)

  right_is : (book : Book) → IsBookOf head phases lane more book → IsRight head phases book
  right_is book is =
      let control = control_right head phases lane.entries book.control is.control in
      record {
        lanes = record {
          conns = is.conns.size ∙ names_size (take head.conn_lanes more) (codes "conn") head.conn_lanes kinds.conns;
          units = is.units.size ∙ names_size (drop head.conn_lanes more) (codes "data") head.data_lanes kinds.units;
        };
        legal = record {
          control = control.legal;
          conns = lanes-weaker (IsConn head phases book.control) (IsConnJournal (lane_head_of head)) 0 book.conns (λ n x is. is.legal) is.conns.all;
          units = lanes-weaker (IsData head phases book.control) (IsDataJournal (lane_head_of head)) 0 book.units (λ n x is. is.legal) is.units.all;
        };
        served = record {
          control = control.own;
          conns = lanes-weaker (IsConn head phases book.control) (IsServed (conn_kind head) head phases book.control) 0 book.conns (λ n x is. is.served) is.conns.all;
          units = lanes-weaker (IsData head phases book.control) (IsServed data_kind head phases book.control) 0 book.units (λ n x is. is.served) is.units.all;
        };
      }

book_right : (head : Head) (phases : List (List Stamped)) (text : List ℕ) (lanes : List LanePart) (book : Book) → HasForm (lane_lines head.conn_lanes head.data_lanes) text lanes
    → book_in head phases lanes ≡ Ok book → IsPrintOfRight head phases text book
unfolding lane_lines
book_right head phases text [] book form h = absurd form.stand
book_right head phases text (lane ∷ more) book form h =
    let names = kind_lines (codes "conn") 0 head.conn_lanes ++ kind_lines (codes "data") 0 head.data_lanes in
    let kinds : HasKinds head more = has_kinds head more (names_are (0 + lane_size lane) (ended_lines (parted 10 text)) names more form.stand.1) in
    let is : IsBookOf head phases lane more book = book_of head phases lane more kinds book h in
    record {
      print = text_is (lane_lines head.conn_lanes head.data_lanes) text (lane ∷ more) book form (lines_are head phases lane more kinds book is form.stand.0.text);
      right = right_is head phases lane more kinds book is;
    }

pub found_is_right : FoundIsRight
found_is_right head phases text book f = of_fault (form_fault (lane_lines head.conn_lanes head.data_lanes) text) f
  where
    of_fault : (fault : Option ℕ) → FindsBy head phases text (Ok book) fault → IsPrintOfRight head phases text book
    of_fault (Some line) f = absurd cc
    of_fault None f = book_right head phases text f.lanes book f.have (sym f.is)

-- ---- a right book is found

control_part : (head : Head) (phases : List (List Stamped)) (e : ControlEntry) (part : EntryPart) → IsReadableControl e → read_entry part ≡ printed_control e → IsPartOf (control_rules head phases) e part
control_part head phases e part is h =
    let text = ap (λ (x : PrintedEntry). x.text) h in
    let lines = ap (λ (x : PrintedEntry). x.outs) h in
    let words : part.words ≡ entry_words e.stamp None e.published = ap (λ (x : PrintedEntry). x.words) h in
    record {
      lines = ap₂ (λ (l : List ℕ) (m : List (List ℕ)). l ∷ m) text lines;
      stamp = ap stamp_of words ∙ stamps_are_read e.stamp None e.published is.0;
      asked = subst (λ (w : EntryWords). SaysEdition None w.asked) (sym words) tt;
    }

readable_lanes : (lanes : List (List Entry)) → AllByRecursion (λ (es : List Entry). AllByRecursion (λ (e : Entry). IsStamp e.stamp) es) lanes
    → AllByRecursion (λ (es : List Entry). AllByRecursion IsWritableEntry es) lanes → AllByRecursion (λ (es : List Entry). AllByRecursion IsReadable es) lanes
readable_lanes lanes f g =
    weaker-two (λ (es : List Entry). AllByRecursion (λ (e : Entry). IsStamp e.stamp) es) (λ (es : List Entry). AllByRecursion IsWritableEntry es) (λ (es : List Entry). AllByRecursion IsReadable es) lanes
    (λ es s w. weaker-two (λ (e : Entry). IsStamp e.stamp) IsWritableEntry IsReadable es (λ e a b. (a, b)) s w) f g

book_found : (head : Head) (phases : List (List Stamped)) (book : Book) (lanes : List LanePart) → IsRight head phases book → HasStamps book → IsPrintable book → map read_lane lanes ≡ printed book
    → book_in head phases lanes ≡ Ok book
book_found head phases book [] right stamped written h = absurd cc
book_found head phases book (lane ∷ more) right stamped written h =
    let conns = head.conn_lanes in
    let first = printed_kind (codes "conn") 0 book.conns in
    let second = printed_kind (codes "data") 0 book.units in
    let size : length first ≡ conns = printed_size (codes "conn") 0 book.conns ∙ right.lanes.conns in
    let here : PrintedLane = record { text = codes "= control"; entries = map printed_control book.control } in
    let top : read_lane lane ≡ here = cc in
    let entries : map read_entry lane.entries ≡ map printed_control book.control = ap (λ (x : PrintedLane). x.entries) top in
    let rest : map read_lane more ≡ first ++ second = cc in
    let first_read : map read_lane (take conns more) ≡ first = sym (take-map read_lane conns more) ∙ ap (take conns) rest ∙ first_of conns first second size in
    let second_read : map read_lane (drop conns more) ≡ second = sym (drop-map read_lane conns more) ∙ ap (drop conns) rest ∙ rest_of conns first second size in
    let readable = weaker-two (λ (e : ControlEntry). IsStamp e.stamp) IsWritableControl IsReadableControl book.control (λ e a b. (a, b)) stamped.control written.control in
    let control : journal_in (control_rules head phases) lane ≡ Ok book.control =
    control_found head phases lane book.control (record { own = right.served.control; legal = right.legal.control })
    (parts_are (control_rules head phases) printed_control IsReadableControl (control_part head phases) book.control lane.entries readable entries) in
    let conn_journals : journals_in (conn_rules head phases book.control) 0 (take conns more) ≡ Ok book.conns =
    are_found (conn_rules head phases book.control) (IsConn head phases book.control)
    (λ es. AllByRecursion IsReadable es) (lane_found (conn_kind head) (conn_outs head) (IsConnJournal (lane_head_of head)) (conn_law head) head phases book.control)
    (codes "conn") 0 (take conns more) book.conns
    (lanes_two (IsServed (conn_kind head) head phases book.control) (IsConnJournal (lane_head_of head)) (IsConn head phases book.control) (λ n x s l. record { served = s; legal = l }) 0 book.conns right.served.conns right.legal.conns)
    (readable_lanes book.conns stamped.conns written.conns) first_read in
    let data_journals : journals_in (data_rules head phases book.control) 0 (drop conns more) ≡ Ok book.units =
    are_found (data_rules head phases book.control) (IsData head phases book.control)
    (λ es. AllByRecursion IsReadable es) (lane_found data_kind (data_outs head) (IsDataJournal (lane_head_of head)) (data_law head) head phases book.control)
    (codes "data") 0 (drop conns more) book.units
    (lanes_two (IsServed data_kind head phases book.control) (IsDataJournal (lane_head_of head)) (IsData head phases book.control) (λ n x s l. record { served = s; legal = l }) 0 book.units right.served.units right.legal.units)
    (readable_lanes book.units stamped.units written.units) second_read in
    ap (λ r. r >>= λ c. journals_in (conn_rules head phases c) 0 (take conns more) >>= λ js. journals_in (data_rules head phases c) 0 (drop conns more) >>= λ ks. of_lanes c js ks) control
    ∙ ap (λ r. r >>= λ js. journals_in (data_rules head phases book.control) 0 (drop conns more) >>= λ ks. of_lanes book.control js ks) conn_journals
    ∙ ap (λ r. r >>= λ ks. of_lanes book.control book.conns ks) data_journals

pub right_is_found : RightIsFound
right_is_found head phases book found given finds =
    let form = prints_have_form.form head phases book given in
    let lanes : FindsInLanes head phases (print_of book) found = subst (FindsBy head phases (print_of book) found) form finds in
    lanes.is
    ∙ book_found head phases book lanes.lanes given.right (right_is_stamped head phases book given) (right_is_printable head phases book given)
    (prints_have_form.reading head phases book lanes.lanes given lanes.have)

pub legal_is_right : LegalIsRight
legal_is_right head phases text book input = (found_is_right head phases text book, back)
  where
    back : IsPrintOfRight head phases text book → Finds head phases text (Ok book)
    back is =
        let some = something_is_found head phases text in
        let finds : Finds head phases (print_of book) some.found = subst (λ t. Finds head phases t some.found) is.print some.finds in
        subst (Finds head phases text) (right_is_found head phases book some.found (record { input = input; right = is.right }) finds) some.finds
