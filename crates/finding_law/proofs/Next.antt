-- What it is for entries to come next after others in a lane.
use Rattle.std.specs.Prelude.{◌≡◌, ℕ, true, List, [], ◌∷◌, ◌++◌, map, Option, Some, None, is_some}
use Rattle.relay_base.specs.declared.words.Stamp.{Stamp}
use Rattle.plant_core.specs.Asking.{Question, answer_to}
use Rattle.plant_core.specs.declared.entry.Asked.{Asked}
use Rattle.plant_core.specs.declared.entry.ControlEvent.{ControlEvent}
use Rattle.book_output.specs.Print.{line_of_output}
use Rattle.journal_finding.specs.Entries.{LaneRules, event_next, may_name}

-- a routing that may stand next: one where one is asked, of an edition that may be named, with the answer of its routing data
abbrev pub IsRoutingNext : {V E : Type 0} → LaneRules V E → List E → ℕ → Option Question → Option Asked → Type 0
IsRoutingNext rules journal phase None None = Unit {0}
IsRoutingNext rules journal phase (Some asks) (Some asked) =
    (may_name rules journal phase asked.edition ≡ true) × (asked.answer ≡ answer_to (rules.routing asked.edition) asks)
IsRoutingNext rules journal phase _ _ = ⊥

-- What is known of the entries of a lane: of each its event, as the lane takes it and as it came.
pub record HasParts {V E : Type 0} (rules : LaneRules V E) : Type 0 where
  pub event : E → V
  pub pair : E → Stamp × ControlEvent
  -- the pair of an entry is its stamp and its event
  pub paired : (e : E) → (pair e).0 ≡ rules.stamp e
  pub taken : (e : E) → rules.event (pair e).1 ≡ Some (event e)
  -- an entry has what it is made of
  pub of_stamp : (journal : List E) (stamp : Stamp) (v : V) (asked : Option Asked) → rules.stamp (rules.entry journal stamp v asked) ≡ stamp
  pub of_event : (journal : List E) (stamp : Stamp) (v : V) (asked : Option Asked) → event (rules.entry journal stamp v asked) ≡ v
  pub of_pair :
      (journal : List E) (stamp : Stamp) (came : ControlEvent) (v : V) (asked : Option Asked) → rules.event came ≡ Some v
      → pair (rules.entry journal stamp v asked) ≡ (stamp, came)
  pub of_asked :
      (journal : List E) (stamp : Stamp) (v : V) (asked : Option Asked) → is_some asked ≡ is_some (rules.question v)
      → rules.asked (rules.entry journal stamp v asked) ≡ asked

-- an entry that may stand next: that of the next event, with its routing
abbrev pub ComesNext : {V E : Type 0} (rules : LaneRules V E) → HasParts rules → List E → E → Type 0
ComesNext rules has journal e = event_next rules journal (rules.stamp e) ≡ Some (has.event e)

abbrev pub IsRoutedNext : {V E : Type 0} (rules : LaneRules V E) → HasParts rules → List E → E → Type 0
IsRoutedNext rules has journal e = IsRoutingNext rules journal (rules.stamp e).phase (rules.question (has.event e)) (rules.asked e)

abbrev pub IsMadeNext : {V E : Type 0} (rules : LaneRules V E) → HasParts rules → List E → E → Type 0
IsMadeNext rules has journal e = rules.entry journal (rules.stamp e) (has.event e) (rules.asked e) ≡ e

pub record IsNext {V E : Type 0} (rules : LaneRules V E) (has : HasParts rules) (journal : List E) (e : E) : Type 0 where
  pub order : ComesNext rules has journal e
  pub routed : IsRoutedNext rules has journal e
  pub made : IsMadeNext rules has journal e

-- so it is of entries one after the other, each with those before it
abbrev pub Along : {E : Type 0} → (List E → E → Type 0) → List E → List E → Type 0
Along P journal [] = Unit {0}
Along P journal (e ∷ more) = P journal e × Along P (journal ++ e ∷ []) more

-- the lines of an entry
abbrev pub lines_by : {V E : Type 0} → LaneRules V E → E → List (List ℕ)
lines_by rules e = rules.line e ∷ map line_of_output (rules.outs e)
