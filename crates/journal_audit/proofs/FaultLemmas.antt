-- The first fault of lanes, one lane after the other, and what is told of it.
use Rattle.std.proofs.Common.{◌≡◌, ◌∙◌, ℕ, ◌+◌, ◌<◌, ◌≤◌, ◌^◌, suc, Bool, true, false, cond, List, [], ◌∷◌, ◌++◌, length, take, drop, Option, Some, None, Ok, Err, IfOk, Result, refl, sym, ap, subst, arith, length-append}
use Rattle.relay_base.specs.declared.words.Event.{Event}
use Rattle.plant_core.specs.declared.entry.ControlEntry.{ControlEntry}
use Rattle.plant_core.specs.declared.entry.Entry.{Entry}
use Rattle.node_head.specs.declared.head.Head.{Head}
use Rattle.journal_text.specs.declared.book.Book.{Book}
use Rattle.capture_form.specs.Events.{Stamped}
use Rattle.journal_form.specs.Form.{lane_lines, form_fault}
use Rattle.journal_form.specs.Parts.{EntryPart, LanePart, entries_size, lane_size, HasForm}
use Rattle.journal_finding.specs.declared.finding.Fault.{Fault}
use Rattle.journal_finding.specs.declared.finding.FindingKind.TheVariants.{Form, Order}
use Rattle.journal_finding.specs.Entries.{LaneRules, ◌>>=◌, entry_of, at_line, all_taken, journal_from}
use Rattle.journal_finding.specs.Finding.{journal_in, journals_in, book_in, FindsBy}
use Rattle.journal_finding.specs.Lanes.{control_rules, conn_rules, data_rules}
use Rattle.lane_audit.specs.Follows.{found_of}
use Rattle.journal_audit.specs.declared.finding.Finding.TheVariants.{Illegal}
use Rattle.journal_audit.specs.Audit.{finding_of, IsFinding}
use Rattle.journal_audit.specs.Inner.Judging.{fault_in, told, others_in, IsShort}

-- ---- one after the other

-- the fault of what is found of a lane
pub fault_is : {E : Type 0} (found : Result (List E) Fault) (journal : List E) (fault : Option Fault) → found ≡ found_of journal fault → fault ≡ fault_in found
fault_is found journal None h = sym (ap fault_in h)
fault_is found journal (Some fault) h = sym (ap fault_in h)

pub fault_if : {E U : Type 0} (found : Result (List E) Fault) (journal : List E) (r : Result (Option Fault) U) → IfOk r (λ fault. found ≡ found_of journal fault) → IfOk r (λ fault. fault ≡ fault_in found)
fault_if found journal (Ok fault) h = fault_is found journal fault h
fault_if found journal (Err e) h = tt

-- a first one
first_fault : {A B : Type 0} (r : Result A Fault) (f : A → Result B Fault) (fault : Fault) → Some fault ≡ fault_in r → fault_in (r >>= f) ≡ Some fault
first_fault (Ok x) f fault h = absurd cc
first_fault (Err e) f fault h = sym h

-- none, and then the later ones
later_fault : {A B : Type 0} (r : Result A Fault) (f : A → Result B Fault) (fault : Option Fault) → None ≡ fault_in r → ((x : A) → fault_in (f x) ≡ fault) → fault_in (r >>= f) ≡ fault
later_fault (Ok x) f fault h each = each x
later_fault (Err e) f fault h each = absurd cc

same_fault : {A B : Type 0} (r : Result A Fault) (g : A → B) → fault_in (r >>= λ x. Ok (g x)) ≡ fault_in r
same_fault (Ok x) g = refl
same_fault (Err e) g = refl

-- ---- lanes of a kind

module _ (rules : ℕ → LaneRules Event Entry) where
  pub kind_fault : (number : ℕ) (lane : LanePart) (more : List LanePart) (fault : Fault) → Some fault ≡ fault_in (journal_in (rules number) lane)
      → fault_in (journals_in rules number (lane ∷ more)) ≡ Some fault
  kind_fault number lane more fault h = first_fault (journal_in (rules number) lane) (λ journal. journals_in rules (number + 1) more >>= λ others. Ok (journal ∷ others)) fault h

  pub kind_more : (number : ℕ) (lane : LanePart) (more : List LanePart) → None ≡ fault_in (journal_in (rules number) lane)
      → fault_in (journals_in rules number (lane ∷ more)) ≡ fault_in (journals_in rules (number + 1) more)
  kind_more number lane more h =
      later_fault (journal_in (rules number) lane) (λ journal. journals_in rules (number + 1) more >>= λ others. Ok (journal ∷ others)) (fault_in (journals_in rules (number + 1) more)) h
      (λ journal. same_fault (journals_in rules (number + 1) more) (λ others. journal ∷ others))

-- ---- the lanes behind the control lane, and all lanes

module _ (head : Head) (phases : List (List Stamped)) where
  module _ (control : List ControlEntry) (lanes : List LanePart) where
    conns : Result (List (List Entry)) Fault
    conns = journals_in (conn_rules head phases control) 0 (take head.conn_lanes lanes)

    units : Result (List (List Entry)) Fault
    units = journals_in (data_rules head phases control) 0 (drop head.conn_lanes lanes)

    abbrev made : List (List Entry) → List (List Entry) → Book
    made c u = record { control = control; conns = c; units = u }

    pub conns_fault : (fault : Fault) → Some fault ≡ fault_in (journals_in (conn_rules head phases control) 0 (take head.conn_lanes lanes))
        → fault_in (others_in head phases control lanes) ≡ Some fault
    unfolding conns units
    conns_fault fault h = first_fault conns (λ c. units >>= λ u. Ok (made c u)) fault h

    pub units_fault : None ≡ fault_in (journals_in (conn_rules head phases control) 0 (take head.conn_lanes lanes))
        → fault_in (others_in head phases control lanes) ≡ fault_in (journals_in (data_rules head phases control) 0 (drop head.conn_lanes lanes))
    unfolding conns units
    units_fault h =
        later_fault conns (λ c. units >>= λ u. Ok (made c u)) (fault_in units) h
        (λ c. same_fault units (λ u. made c u))

  module _ (lane : LanePart) (more : List LanePart) where
    pub control_fault : (journal : List ControlEntry) (fault : Fault) → journal_in (control_rules head phases) lane ≡ found_of journal (Some fault)
        → fault_in (book_in head phases (lane ∷ more)) ≡ Some fault
    control_fault journal fault h =
        first_fault (journal_in (control_rules head phases) lane) (λ control. others_in head phases control more) fault (fault_is (journal_in (control_rules head phases) lane) journal (Some fault) h)

    pub others_fault : (journal : List ControlEntry) → journal_in (control_rules head phases) lane ≡ found_of journal None
        → fault_in (book_in head phases (lane ∷ more)) ≡ fault_in (others_in head phases journal more)
    others_fault journal h = ap (λ r. fault_in (r >>= λ control. others_in head phases control more)) h

-- ---- what is told

told_is : (found : Result Book Fault) → told (fault_in found) ≡ finding_of found
told_is (Ok book) = refl
told_is (Err fault) = refl

module _ (head : Head) (phases : List (List Stamped)) (text : List ℕ) where
  -- a line breaks the form
  pub form_told : (line : ℕ) → form_fault (lane_lines head.conn_lanes head.data_lanes) text ≡ Some line → IsFinding head phases text (Illegal line Form)
  form_told line h =
      let found : Result Book Fault = Err (record { line = line; kind = Form }) in
      record { found = found; finds = subst (FindsBy head phases text found) (sym h) refl; is = refl }

  -- or there are lanes
  pub lanes_told : (lanes : List LanePart) (fault : Option Fault) → HasForm (lane_lines head.conn_lanes head.data_lanes) text lanes → fault ≡ fault_in (book_in head phases lanes)
      → IsFinding head phases text (told fault)
  unfolding form_fault
  lanes_told lanes fault form h = record {
    found = book_in head phases lanes;
    finds = subst (FindsBy head phases text (book_in head phases lanes)) (sym form.right) (record { lanes = lanes; have = form; is = refl });
    is = ap told h ∙ told_is (book_in head phases lanes);
  }

-- ---- how many entries a journal has

module _ {V E : Type 0} (rules : LaneRules V E) (end : ℕ) where
  pub journal_size : (before : List E) (parts : List EntryPart) (journal : List E) → journal_from rules end before parts ≡ Ok journal → length journal ≡ length before + length parts
  journal_size before [] journal h = of_test (all_taken rules before) h
    where
      of_test : (t : Bool) → cond {A = Result (List E) Fault} t (Ok before) (Err (record { line = end; kind = Order })) ≡ Ok journal → length journal ≡ length before + 0
      of_test true k = let same : before ≡ journal = cc in omega (arith, ap length same)
      of_test false k = absurd cc
  journal_size before (part ∷ parts) journal h = of_first (at_line part.number (entry_of rules before part)) h (λ e k. journal_size (before ++ e ∷ []) parts journal k)
    where
      of_first : (r : Result E Fault) → (r >>= λ e. journal_from rules end (before ++ e ∷ []) parts) ≡ Ok journal
          → ((e : E) → journal_from rules end (before ++ e ∷ []) parts ≡ Ok journal → length journal ≡ length (before ++ e ∷ []) + length parts)
          → length journal ≡ length before + suc (length parts)
      of_first (Ok e) k later = omega (arith, later e k, length-append before (e ∷ []))
      of_first (Err fault) k later = absurd cc

entries_many : (parts : List EntryPart) → length parts ≤ entries_size parts
entries_many [] = omega arith
entries_many (part ∷ parts) = omega (arith, entries_many parts)

-- the journal of a lane that is short has few entries
pub journal_few : {V E : Type 0} (rules : LaneRules V E) (lane : LanePart) (journal : List E) → journal_in rules lane ≡ found_of journal None → IsShort lane → length journal < 2 ^ 32
journal_few rules lane journal h short =
    omega (arith, journal_size rules (lane.number + lane_size lane) [] lane.entries journal h, entries_many lane.entries, short)
