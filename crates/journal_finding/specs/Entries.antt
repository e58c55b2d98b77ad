-- Whether the entries of a lane, as a text has them, are those of a legal journal: each line's stamp, routing and outputs beside what the capture has and the
-- entries before it leave.
use Rattle.std.specs.Prelude.{ℕ, ◌+◌, ◌==◌, ◌&&◌, nat_le, Bool, true, false, List, [], ◌∷◌, ◌++◌, length, map, count_by, slice_get, if◌then◌else◌, Option, Some, None, option_and_then, Ok, Err}
use Rattle.std.specs.declared.result.Result.{Result}
use Rattle.std.specs.List.{list_all, flat_map}
use Rattle.relay_base.specs.Decimal.{digits_value}
use Rattle.relay_base.specs.declared.words.Stamp.{Stamp}
use Rattle.relay_base.specs.declared.words.Output.{Output}
use Rattle.plant_core.specs.Asking.{Question, asked_at}
use Rattle.plant_core.specs.Plant.{RoutingData}
use Rattle.plant_core.specs.declared.entry.Asked.{Asked}
use Rattle.plant_core.specs.declared.entry.ControlEvent.{ControlEvent}
use Rattle.capture_form.specs.Events.{Stamped}
use Rattle.book_output.specs.Print.{line_of_output}
use Rattle.journal_form.specs.Words.{same}
use Rattle.journal_form.specs.Headings.{RoutingWords}
use Rattle.journal_form.specs.Parts.{EntryPart}
use Rattle.journal_form.specs.Stamps.{stamp_of}
use Rattle.right_book.specs.Own.{events_at}
use Rattle.right_book.specs.Editions.{named}
use Rattle.journal_finding.specs.declared.finding.Fault.{Fault}
use Rattle.journal_finding.specs.declared.finding.FindingKind.{FindingKind}
use Rattle.journal_finding.specs.declared.finding.FindingKind.TheVariants.{Order, Edition, Entry}

-- What a lane has to do, for events of a type and entries of a type.
pub record LaneRules (V E : Type 0) : Type 0 where
  -- the events of the phases that are placed in it
  pub events : List (List Stamped)
  -- an event as it takes it, if it takes such events
  pub event : ControlEvent → Option V
  -- what an event asks of routing
  pub question : V → Option Question
  -- the editions that a routing may name in a phase: the first and the last of them
  pub first : ℕ → ℕ
  pub last : ℕ → ℕ
  -- the routing data of an edition
  pub routing : ℕ → RoutingData
  -- the entry of an event with its routing, after these entries
  pub entry : List E → Stamp → V → Option Asked → E
  -- of an entry: its stamp, its routing, its line and its outputs
  pub stamp : E → Stamp
  pub asked : E → Option Asked
  pub line : E → List ℕ
  pub outs : E → List Output

-- ---- the order

abbrev pub is_stamped_at : ℕ → ℕ → Stamp → Bool
is_stamped_at phase link stamp = stamp.phase == phase && stamp.link == link

abbrev pub is_same_stamp : Stamp → Stamp → Bool
is_same_stamp one other = one.phase == other.phase && one.link == other.link && one.line == other.line

-- how many of these entries have a stamp of a phase and a link
abbrev pub taken_at : {V E : Type 0} → LaneRules V E → List E → ℕ → ℕ → ℕ
taken_at rules journal phase link = count_by (λ e. is_stamped_at phase link (rules.stamp e)) journal

-- the next event of a phase and a link, if one is left after these entries
abbrev pub next_event : {V E : Type 0} → LaneRules V E → List E → ℕ → ℕ → Option (Stamp × ControlEvent)
next_event rules journal phase link = slice_get (events_at rules.events phase link) (taken_at rules journal phase link)

-- no entry stands in a later phase
abbrev pub is_phase_reached : {V E : Type 0} → LaneRules V E → List E → ℕ → Bool
is_phase_reached rules journal phase = list_all (λ e. nat_le (rules.stamp e).phase phase) journal

-- an event as the lane takes it, where it has this stamp
abbrev pub if_stamped : {V E : Type 0} → LaneRules V E → Stamp → Stamp × ControlEvent → Option V
if_stamped rules stamp next = if is_same_stamp stamp next.0 then rules.event next.1 else None

-- the event with this stamp, where it is the next one
abbrev pub event_next : {V E : Type 0} → LaneRules V E → List E → Stamp → Option V
event_next rules journal stamp =
    if is_phase_reached rules journal stamp.phase
    then option_and_then (if_stamped rules stamp) (next_event rules journal stamp.phase stamp.link)
    else None

-- ---- the edition

-- the editions that routings name, in order
abbrev pub editions_of : {V E : Type 0} → LaneRules V E → List E → List ℕ
editions_of rules journal = flat_map (λ e. named (rules.asked e)) journal

-- it was published before the phase or in it, and none that was named is later
abbrev pub may_name : {V E : Type 0} → LaneRules V E → List E → ℕ → ℕ → Bool
may_name rules journal phase edition =
    nat_le (rules.first phase) edition && nat_le edition (rules.last phase) && list_all (λ n. nat_le n edition) (editions_of rules journal)

-- the routing of what an event asks, by the edition that the line names; Err where it names one and nothing is asked, none where it asks, or one that it may not name
abbrev pub routing_of : {V E : Type 0} → LaneRules V E → List E → ℕ → Option Question → Option RoutingWords → Result (Option Asked) FindingKind
routing_of rules journal phase None None = Ok None
routing_of rules journal phase (Some asks) (Some words) =
    let edition = digits_value words.edition in
    if may_name rules journal phase edition then Ok (asked_at edition (rules.routing edition) (Some asks)) else Err Edition
routing_of rules journal phase _ _ = Err Edition

-- ---- the entry

abbrev pub same_lines : List (List ℕ) → List (List ℕ) → Bool
same_lines [] [] = true
same_lines (line ∷ lines) (other ∷ others) = same line other && same_lines lines others
same_lines _ _ = false

-- the lines are those of the entry
abbrev pub is_written : {V E : Type 0} → LaneRules V E → E → EntryPart → Bool
is_written rules e part = same (rules.line e) part.text && same_lines (map line_of_output (rules.outs e)) part.outs

abbrev pub if_written : {V E : Type 0} → LaneRules V E → EntryPart → E → Result E FindingKind
if_written rules part e = if is_written rules e part then Ok e else Err Entry

-- ---- the entries of a lane, one after the other

abbrev pub with_routing : {V E : Type 0} → LaneRules V E → List E → EntryPart → Stamp → V → Result (Option Asked) FindingKind → Result E FindingKind
with_routing rules journal part stamp event (Ok asked) = if_written rules part (rules.entry journal stamp event asked)
with_routing rules journal part stamp event (Err kind) = Err kind

abbrev pub with_event : {V E : Type 0} → LaneRules V E → List E → EntryPart → Stamp → Option V → Result E FindingKind
with_event rules journal part stamp None = Err Order
with_event rules journal part stamp (Some event) =
    with_routing rules journal part stamp event (routing_of rules journal stamp.phase (rules.question event) part.words.asked)

abbrev pub with_stamp : {V E : Type 0} → LaneRules V E → List E → EntryPart → Option Stamp → Result E FindingKind
with_stamp rules journal part None = Err Order
with_stamp rules journal part (Some stamp) = with_event rules journal part stamp (event_next rules journal stamp)

-- the entry that a part of a text writes after these entries, or what is wrong with it
unfoldable pub entry_of : {V E : Type 0} → LaneRules V E → List E → EntryPart → Result E FindingKind
entry_of rules journal part = with_stamp rules journal part (stamp_of part.words)

-- no event is left of these, which are the lists of the links of a phase, from a link on, or those of the phases, from a phase on
abbrev pub links_taken : {V E : Type 0} → LaneRules V E → List E → ℕ → ℕ → List Stamped → Bool
links_taken rules journal phase link [] = true
links_taken rules journal phase link (events ∷ more) = taken_at rules journal phase link == length events && links_taken rules journal phase (link + 1) more

abbrev pub phases_taken : {V E : Type 0} → LaneRules V E → List E → ℕ → List (List Stamped) → Bool
phases_taken rules journal phase [] = true
phases_taken rules journal phase (lists ∷ more) = links_taken rules journal phase 0 lists && phases_taken rules journal (phase + 1) more

abbrev pub all_taken : {V E : Type 0} → LaneRules V E → List E → Bool
all_taken rules journal = phases_taken rules journal 1 rules.events

-- the journal at the end of its lane, where no event is left; an event that is left is missed at the line behind the lane's last one
abbrev pub ended : {V E : Type 0} → LaneRules V E → ℕ → List E → Result (List E) Fault
ended rules end journal = if all_taken rules journal then Ok journal else Err (record { line = end; kind = Order })

-- what is found at a line
abbrev pub at_line : {A : Type 0} → ℕ → Result A FindingKind → Result A Fault
at_line line (Ok x) = Ok x
at_line line (Err kind) = Err (record { line = line; kind = kind })

infixl 10 ◌>>=◌
-- what comes of a result, where it is no fault
abbrev pub ◌>>=◌ : {A B E : Type 0} → Result A E → (A → Result B E) → Result B E
Ok x >>= f = f x
Err e >>= f = Err e

-- the journal that these parts write behind these entries, each as it comes next, or the first fault
abbrev pub journal_from : {V E : Type 0} → LaneRules V E → ℕ → List E → List EntryPart → Result (List E) Fault
journal_from rules end journal [] = ended rules end journal
journal_from rules end journal (part ∷ more) = do
  e ← at_line part.number (entry_of rules journal part)
  journal_from rules end (journal ++ e ∷ []) more
