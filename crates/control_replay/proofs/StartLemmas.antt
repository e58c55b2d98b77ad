-- What may be named at the start of a lane, by the table of the editions of a control journal.
use Rattle.std.proofs.Common.{◌≡◌, ◌∙◌, ℕ, zero, suc, ◌+◌, ◌<◌, ◌≤◌, ◌^◌, ◌&&◌, nat_lt, Bool, true, false, List, [], ◌∷◌, length, map, get_or, Option, Some, None, is_some, option_to_list, sym, ap, arith, length-append}
use Rattle.std.specs.List.{AllByRecursion}
use Rattle.std.proofs.Math.Seq.{take-nil}
use Rattle.std.proofs.lemmas.Bool.{le-leb}
use Rattle.std.proofs.lemmas.List.{length-map}
use Rattle.std.proofs.lemmas.List.Sums.{sum_by-cons}
use Rattle.plant_core.specs.declared.change.Group.{Group}
use Rattle.plant_core.specs.declared.entry.ControlEntry.{ControlEntry}
use Rattle.plant_core.specs.Changes.{plant_after_all}
use Rattle.scmg.specs.declared.head.ControlHead.{ControlHead}
use Rattle.scmg.specs.Control.{Control, managed, edition_after, count_after, after_entry, start_of_control, LegalFrom, changes_from, IsControlJournal}
use Rattle.scmg.proofs.JournalLemmas.{few-changes}
use Rattle.node_head.specs.declared.head.Head.{Head}
use Rattle.capture_form.specs.declared.lane_place.LanePlace.{LanePlace}
use Rattle.capture_form.specs.Events.{Stamped}
use Rattle.right_book.specs.Heads.{routing_of, control_head_of}
use Rattle.right_book.specs.Placed.{taken, placed, in_control}
use Rattle.right_book.specs.Editions.{changes_of, edition_of, editions_before, editions_upto}
use Rattle.journal_finding.specs.Entries.{LaneRules}
use Rattle.journal_finding.specs.Lanes.{control_rules}
use Rattle.lane_audit.specs.Follows.{Names}
use Rattle.control_replay.specs.Tables.{IsTable, named_first}
use Rattle.control_replay.proofs.TableLemmas.{one_if, upto_is_before}

-- ---- groups and editions

-- a journal publishes no more groups of changes than it has entries
pub changes_few : (head : Head) (control : List ControlEntry) → length (changes_of head control) ≤ length control
changes_few head control = few-changes (control_head_of head) (start_of_control (routing_of head)) control

at_most_one : (test : Bool) → one_if test ≤ 1
at_most_one true = omega arith
at_most_one false = omega arith

-- an entry that published an edition published a group of changes
edition_made : (published : Option ℕ) (test : Bool) (edition : ℕ) (made : Option Group) → published ≡ edition_after edition made → one_if (is_some published && test) ≤ length (option_to_list made)
edition_made published test edition None is = let none = ap (λ (p : Option ℕ). one_if (is_some p && test)) is in omega (arith, none)
edition_made published test edition (Some group) is = at_most_one (is_some published && test)

editions_made : (phase : ℕ) (head : ControlHead) (c : Control) (edition : ℕ) (control : List ControlEntry) → LegalFrom head c edition control → editions_before phase control ≤ length (changes_from head c control)
editions_made phase head c edition [] legal = omega arith
editions_made phase head c edition (e ∷ control) legal =
    let made = (managed head c e.event).published in
    let more = changes_from head (after_entry head c e) control in
    let first = edition_made e.published (nat_lt e.stamp.phase phase) edition made legal.0.published in
    let rest = editions_made phase head (after_entry head c e) (count_after edition made) control legal.1 in
    let sum = sum_by-cons (λ (x : ControlEntry). one_if (is_some x.published && nat_lt x.stamp.phase phase)) e control in
    omega (arith, first, rest, sum, length-append (option_to_list made) more)

-- what holds of a list's items, by their places
all_at : (P : ℕ → Type 0) (xs : List ℕ) → ((k : ℕ) → k < length xs → P (get_or xs k 0)) → AllByRecursion P xs
all_at P [] h = tt
all_at P (x ∷ xs) h = (h zero (omega arith), all_at P xs (λ k lt. h (suc k) (omega arith)))

-- no phase of a table begins after more editions than there are groups of changes
pub table_few : (head : Head) (phases : ℕ) (control : List ControlEntry) (table : List ℕ) → IsControlJournal (control_head_of head) (routing_of head) control → IsTable phases control table
    → AllByRecursion (λ n. n ≤ length (changes_of head control)) table
table_few head phases control table legal is =
    all_at (λ n. n ≤ length (changes_of head control)) table
    (λ phase lt.
    let here = is.each phase (omega (arith, is.size, lt)) in
    let most = editions_made phase (control_head_of head) (start_of_control (routing_of head)) 0 control legal in
    omega (arith, here, most))

-- ---- at the start

-- a lane has as many phases as the capture
pub placed_count : (in_lane : LanePlace → Bool) (head : Head) (phases : List (List Stamped)) → length (placed in_lane head phases) ≡ length phases
placed_count in_lane head phases = length-map phases (map (taken in_lane head))

-- the control lane names none
pub control_names : (head : Head) (phases : List (List Stamped)) (table : List ℕ) → IsTable (length phases) [] table → Names (control_rules head phases) [] (named_first head [] table)
control_names head phases table is =
    let count = placed_count in_control head phases in
    record {
      first = λ phase le. is.each phase (omega (arith, count, le));
      last = λ phase le. is.each (phase + 1) (omega (arith, count, le));
      routing = λ n. ap (plant_after_all (routing_of head)) (take-nil n);
      named = λ n. le-leb 0 n (omega arith);
      phases = omega (arith, count, is.size);
      few = omega arith;
    }

-- what a lane may name is what a control journal published
pub record NamesOf {V E : Type 0} (rules : LaneRules V E) (head : Head) (phases : ℕ) (control : List ControlEntry) : Type 0 where
  pub count : length rules.events ≡ phases
  pub first : (phase : ℕ) → rules.first phase ≡ editions_before phase control
  pub last : (phase : ℕ) → rules.last phase ≡ editions_upto phase control
  pub routing : (n : ℕ) → rules.routing n ≡ edition_of head control n

pub plain_names : {V E : Type 0} (rules : LaneRules V E) (head : Head) (phases : ℕ) (control : List ControlEntry) (table : List ℕ) → NamesOf rules head phases control → length control < 2 ^ 32
    → IsTable phases control table → Names rules [] (named_first head (changes_of head control) table)
plain_names rules head phases control table of few is =
    let changes = changes_few head control in
    record {
      first = λ phase le. is.each phase (omega (arith, of.count, le)) ∙ sym (of.first phase);
      last = λ phase le. is.each (phase + 1) (omega (arith, of.count, le)) ∙ sym (upto_is_before phase control) ∙ sym (of.last phase);
      routing = λ n. sym (of.routing n);
      named = λ n. le-leb 0 n (omega arith);
      phases = omega (arith, of.count, is.size);
      few = omega (arith, changes, few);
    }
