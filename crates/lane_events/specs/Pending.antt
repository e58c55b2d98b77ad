-- The events that a lane takes, by phase and link, and how many of each it has taken.
use Rattle.std.specs.Prelude.{ℕ, zero, suc, ◌+◌, ◌==◌, nat_le, Bool, List, [], length, get_or, set, slice_get, if◌then◌else◌, Option, Some, None, option_and_then}
use Rattle.relay_base.specs.declared.words.Stamp.{Stamp}
use Rattle.plant_core.specs.declared.entry.ControlEvent.{ControlEvent}
use Rattle.capture_form.specs.Events.{Stamped}
use Rattle.journal_finding.specs.Entries.{is_same_stamp}

-- those of a link in a phase, of which so many were taken
pub record Pending : Type 0 where
  pub events : Stamped
  pub taken : ℕ

abbrev pub none_pending : Pending
none_pending = record { events = []; taken = 0 }

-- an event with this stamp
abbrev pub if_same : Stamp → Stamp × ControlEvent → Option ControlEvent
if_same stamp next = if is_same_stamp stamp next.0 then Some next.1 else None

-- the next event, where it has this stamp
abbrev pub next_of : Stamp → Pending → Option ControlEvent
next_of stamp p = option_and_then (if_same stamp) (slice_get p.events p.taken)

abbrev pub one_taken : Pending → Pending
one_taken p = record p { taken = p.taken + 1 }

abbrev pub is_done : Pending → Bool
is_done p = p.taken == length p.events

-- of the links of a phase, that of a stamp
abbrev pub next_on : Stamp → List Pending → Option ControlEvent
next_on stamp links = next_of stamp (get_or links stamp.link none_pending)

abbrev pub taken_on : Stamp → List Pending → List Pending
taken_on stamp links = set links stamp.link (one_taken (get_or links stamp.link none_pending))

-- those of a lane, for each phase and each link, and the phase of the last one that was taken, 0 before the first
pub record Waiting : Type 0 where
  pub phases : List (List Pending)
  pub reached : ℕ

-- those of a phase, counted from 1
abbrev pub links_in : List (List Pending) → ℕ → List Pending
links_in phases zero = []
links_in phases (suc n) = get_or phases n []

abbrev pub next_in : Waiting → Stamp → Option ControlEvent
next_in w stamp = if nat_le w.reached stamp.phase then next_on stamp (links_in w.phases stamp.phase) else None

-- the phases with the links of a phase changed
abbrev pub with_links : List (List Pending) → ℕ → List Pending → List (List Pending)
with_links phases zero links = phases
with_links phases (suc n) links = set phases n links

abbrev pub taken_in : Waiting → Stamp → Waiting
taken_in w stamp = record {
  phases = with_links w.phases stamp.phase (taken_on stamp (links_in w.phases stamp.phase));
  reached = stamp.phase;
}
