-- What the lanes behind the control lane may name.
use Rattle.std.proofs.Common.{◌≡◌, ◌∙◌, ℕ, ◌≤◌, List, [], length, map, sym, subst, ap, refl}
use Rattle.std.specs.List.{AllByRecursion}
use Rattle.relay_base.specs.declared.words.Event.{Event}
use Rattle.plant_core.specs.declared.change.Group.{Group}
use Rattle.plant_core.specs.declared.entry.Entry.{Entry}
use Rattle.journal_finding.specs.Entries.{LaneRules}
use Rattle.lane_events.specs.declared.placing.Lane.{Lane}
use Rattle.lane_events.specs.Placing.{is_in, kept}
use Rattle.lane_events.specs.Editions.{Named}
use Rattle.lane_audit.specs.Follows.{Names}
use Rattle.lane_replays.specs.Plain.{Questions, Outcomes, PlainState, plain_rules}
use Rattle.control_replay.specs.Tables.{named_first}
use Rattle.control_replay.proofs.StartLemmas.{NamesOf, placed_count, plain_names, table_few}
use Rattle.journal_audit.specs.declared.beside.Beside.{Beside}
use Rattle.journal_audit.specs.Inner.Judging.{IsBeside, kind_rules}
use Rattle.journal_audit.proofs.StartLemmas.{phases_kept}

module _ (b : Beside) (is : IsBeside b) where
  -- no phase begins after more editions than were published
  pub before_few : AllByRecursion (λ n. n ≤ length b.groups.now) b.before.now
  before_few =
      subst (λ (groups : List Group). AllByRecursion (λ n. n ≤ length groups) b.before.now) (sym is.groups)
      (table_few b.capture.now.head (length b.capture.now.phases) b.control.now b.before.now is.legal is.table)

  module _ (named : ℕ → Lane) (question : Questions) (outs : Outcomes) (number : ℕ) where
    names_of : NamesOf (kind_rules named question outs b number) b.capture.now.head (length b.capture.now.phases) b.control.now
    names_of = record {
      count = placed_count (is_in (named number)) b.capture.now.head b.capture.now.phases;
      first = λ phase. refl;
      last = λ phase. refl;
      routing = λ n. refl;
    }

    -- the lane of this number, before its first event
    abbrev first : PlainState
    first = record { head = b.capture.now.head; phases = b.capture.now.phases; control = b.control.now; number = number; journal = [] }

    abbrev has_to : PlainState → LaneRules Event Entry
    has_to s = plain_rules named question outs s

    -- it takes the events that are placed there
    pub kind_events : (name : Lane) (s : PlainState) → name ≡ named number → s ≡ first → map (map (kept name)) b.placed.now ≡ (has_to s).events
    kind_events name s is_name is_first =
        let here : map (map (kept name)) b.placed.now ≡ map (map (kept (named number))) b.placed.now = ap (λ (n : Lane). map (map (kept n)) b.placed.now) is_name in
        let whole : map (map (kept (named number))) b.placed.now ≡ (has_to first).events =
        ap (map (map (kept (named number)))) is.placed ∙ phases_kept (named number) b.capture.now.head b.capture.now.phases in
        let there : (has_to first).events ≡ (has_to s).events = ap (λ (x : PlainState). (has_to x).events) (sym is_first) in
        here ∙ whole ∙ there

    names_first : Names (has_to first) [] (named_first b.capture.now.head b.groups.now b.before.now)
    names_first =
        subst (λ (groups : List Group). Names (has_to first) [] (named_first b.capture.now.head groups b.before.now)) (sym is.groups)
        (plain_names (has_to first) b.capture.now.head (length b.capture.now.phases) b.control.now b.before.now names_of is.few is.table)

    -- and may name the editions that were published
    pub kind_names : (s : PlainState) (e : Named) → s ≡ first → e ≡ named_first b.capture.now.head b.groups.now b.before.now → Names (has_to s) [] e
    kind_names s e is_first is_e =
        subst (λ (x : PlainState). Names (has_to x) [] e) (sym is_first) (subst (λ (x : Named). Names (has_to first) [] x) (sym is_e) names_first)
