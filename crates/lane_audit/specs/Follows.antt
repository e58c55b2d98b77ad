-- How what the code of an audit holds stands to the rules of a lane and the entries so far, and what comes of a line.
use Rattle.std.specs.Prelude.{◌≡◌, ◌≢◌, ◌⊎◌, ◌+◌, ◌≤◌, ◌<◌, ℕ, nat_le, List, [], ◌∷◌, ◌++◌, length, map, get_or, is_some, true, false, Bool, Option, Some, None, Ok, Err}
use Rattle.std.specs.declared.result.Result.{Result}
use Rattle.std.specs.List.{list_all}
use Rattle.relay_base.specs.declared.words.Stamp.{Stamp}
use Rattle.plant_core.specs.Asking.{asked_at}
use Rattle.plant_core.specs.Plant.{PlantState}
use Rattle.plant_core.specs.declared.entry.ControlEvent.{ControlEvent}
use Rattle.journal_form.specs.Parts.{EntryPart}
use Rattle.journal_form.specs.Stamps.{stamp_of}
use Rattle.journal_finding.specs.declared.finding.Fault.{Fault}
use Rattle.journal_finding.specs.declared.finding.FindingKind.{FindingKind}
use Rattle.journal_finding.specs.declared.finding.FindingKind.TheVariants.{Edition, Entry}
use Rattle.journal_finding.specs.Entries.{LaneRules, taken_at, is_phase_reached, editions_of, is_written, entry_of}
use Rattle.lane_events.specs.Pending.{Waiting, none_pending, links_in, next_in}
use Rattle.lane_events.specs.declared.editions.TheConstants.{MANY_EDITIONS}
use Rattle.lane_events.specs.Editions.{Named, routing_at, before_phase, may_be_next, named_next}
use Rattle.relay_base.specs.Decimal.{digits_value}
use Rattle.journal_form.specs.Headings.{RoutingWords}
use Rattle.lane_audit.specs.declared.replay.Judged.{Judged}

-- the events that wait are those of the lane behind these entries
pub record Awaits {V E : Type 0} (rules : LaneRules V E) (journal : List E) (w : Waiting) : Type 0 where
  pub events : map (map (λ p. p.events)) w.phases ≡ rules.events
  pub taken : (phase link : ℕ) → (get_or (links_in w.phases phase) link none_pending).taken ≡ taken_at rules journal phase link
  pub reached : (phase : ℕ) → nat_le w.reached phase ≡ is_phase_reached rules journal phase

-- the editions that may be named are those of the lane behind these entries, for its phases
pub record Names {V E : Type 0} (rules : LaneRules V E) (journal : List E) (s : Named) : Type 0 where
  pub first : (phase : ℕ) → phase ≤ length rules.events → before_phase s phase ≡ rules.first phase
  pub last : (phase : ℕ) → phase ≤ length rules.events → before_phase s (phase + 1) ≡ rules.last phase
  pub routing : (edition : ℕ) → routing_at s edition ≡ rules.routing edition
  pub named : (edition : ℕ) → nat_le s.edition edition ≡ list_all (λ n. nat_le n edition) (editions_of rules journal)
  pub phases : length rules.events + 1 < length s.before
  pub few : length s.groups < MANY_EDITIONS

-- the edition that a line names may be named next, where it names one
abbrev pub may_follow : Named → ℕ → Option RoutingWords → Bool
may_follow s phase None = true
may_follow s phase (Some words) = may_be_next s phase (digits_value words.edition)

-- and is then the one that was named last
abbrev pub named_by : Named → ℕ → Option RoutingWords → Named
named_by s phase None = s
named_by s phase (Some words) = named_next s phase (digits_value words.edition)

-- a part is of an event with this stamp, which waits to be taken next, and the lane takes it
pub record Comes {V E : Type 0} (rules : LaneRules V E) (part : EntryPart) (w : Waiting) (stamp : Stamp) (event : ControlEvent) : Type 0 where
  pub stamped : stamp_of part.words ≡ Some stamp
  pub next : next_in w stamp ≡ Some event
  pub taken : is_some (rules.event event) ≡ true

-- the lane took an event at the edition of a plant: the journal has its entry, and this is known of the entry beside the lines of a part
pub record Takes {V E : Type 0} (rules : LaneRules V E) (before after : List E) (plant : PlantState) (stamp : Stamp) (event : ControlEvent) (part : EntryPart) (judged : Judged) : Type 0 where
  pub own : V
  pub is : rules.event event ≡ Some own
  pub entry : E
  pub comes : entry ≡ rules.entry before stamp own (asked_at plant.edition plant.routing (rules.question own))
  pub stamped : rules.stamp entry ≡ stamp
  pub routed : rules.asked entry ≡ asked_at plant.edition plant.routing (rules.question own)
  pub journal : after ≡ before ++ entry ∷ []
  pub asks : judged.asks ≡ is_some (rules.question own)
  pub written : judged.is_written ≡ is_written rules entry part

-- this is wrong with what is known of an entry beside a part: its event asks where the part has no routing, or the other way round, or else its lines are others
abbrev pub IsWrong : Judged → EntryPart → Option FindingKind → Type 0
IsWrong judged part None = (judged.asks ≡ is_some part.words.asked) × (judged.is_written ≡ true)
IsWrong judged part (Some kind) =
    ((kind ≡ Edition) × (judged.asks ≢ is_some part.words.asked)) ⊎ ((kind ≡ Entry) × (judged.asks ≡ is_some part.words.asked) × (judged.is_written ≡ false))

-- the lane made an entry of an event, with which this is wrong beside a part, or nothing
pub record Made {V E : Type 0} (rules : LaneRules V E) (before after : List E) (plant : PlantState) (stamp : Stamp) (event : ControlEvent) (part : EntryPart) (kind : Option FindingKind) : Type 0 where
  pub judged : Judged
  pub takes : Takes rules before after plant stamp event part judged
  pub is : IsWrong judged part kind

-- the journal has the entry of a part, and what waits and may be named follows it
pub record Goes {V E : Type 0} (rules : LaneRules V E) (before after : List E) (part : EntryPart) (w : Waiting) (s : Named) : Type 0 where
  pub entry : E
  pub is : entry_of rules before part ≡ Ok entry
  pub journal : after ≡ before ++ entry ∷ []
  pub awaits : Awaits rules after w
  pub names : Names rules after s

-- what comes of a part: its entry, or this is wrong with it
abbrev pub Judges : {V E : Type 0} → LaneRules V E → List E → List E → EntryPart → Waiting → Named → Option FindingKind → Type 0
Judges rules before after part w s None = Goes rules before after part w s
Judges rules before after part w s (Some kind) = entry_of rules before part ≡ Err kind

-- what is found: a journal, or the first fault
abbrev pub found_of : {E : Type 0} → List E → Option Fault → Result (List E) Fault
found_of journal None = Ok journal
found_of journal (Some fault) = Err fault
