-- The laws of the timers of a connection (Q.714, 3.1, 3.3, 3.4 and 3.7), over the openings that the entries of a lane
-- leave, whatever these are, and so of a legal journal.
use Rattle.std.specs.Prelude.{◌≡◌, ℕ, ◌≤◌, Bool, true, false, List, [], Some, None, IfSome, slice_get}
use Rattle.relay_base.specs.declared.limits.TheConstants.{GREATEST_CREDIT}
use Rattle.relay_base.specs.declared.words.Event.TheVariants.{Tick}
use Rattle.plant_core.specs.declared.entry.Entry.{Entry}
use Rattle.plant_core.specs.declared.terms.Ticks.{Ticks}
use Rattle.section_model.specs.declared.cell.Timer.{Timer}
use Rattle.section_model.specs.declared.cell.Timer.TheVariants.{Connect, Reset, Iar, Ias, Rel, Int, Repeat}
use Rattle.section_model.specs.declared.cell.SectionState.{SectionState}
use Rattle.section_model.specs.declared.cell.SectionState.TheVariants.{Asking, Waning, Resetting, Ending}
use Rattle.section_model.specs.Ends.{End, wire, owner, Section, Connection, is_connected}
use Rattle.section_model.specs.Timing.{timer_in}
use Rattle.section_model.specs.Step.{connection_step, ticked, is_due_at}
use Rattle.section_model.specs.Lane.{Lane, Opening, connection_of}
use Rattle.section_model.specs.Laws.{openings_from}

-- the ticks that each timer is set to
abbrev pub set_to : Ticks → Timer → ℕ
set_to ticks Connect = ticks.connect
set_to ticks Reset = ticks.reset
set_to ticks Iar = ticks.iar
set_to ticks Ias = ticks.ias
set_to ticks Rel = ticks.rel
set_to ticks Int = ticks.int
set_to ticks Repeat = ticks.repeat

-- The states in which a timer may run.

-- the section sent CR, and awaits CC
abbrev pub is_calling : SectionState → Bool
is_calling Asking = true
is_calling Waning = true
is_calling _ = false

abbrev pub is_resetting : SectionState → Bool
is_resetting Resetting = true
is_resetting _ = false

abbrev pub is_ending : SectionState → Bool
is_ending Ending = true
is_ending _ = false

abbrev pub may_run : Timer → SectionState → Bool
may_run Connect s = is_calling s
may_run Reset s = is_resetting s
may_run Iar s = is_connected s
may_run Ias s = is_connected s
may_run Rel s = is_ending s
may_run Int s = is_ending s
may_run Repeat s = is_ending s

-- Between events a timer that runs has a tick left at least, and no more than it is set to, and its section is in a
-- state that has it. While T(rel) runs, T(int) and T(repeat rel) do not (Q.714, 3.3).
pub record SectionRuns (ticks : Ticks) (x : Section) : Type 0 where
  pub left :
      (timer : Timer) → IfSome (timer_in timer x.timers) (λ left. (1 ≤ left) × (left ≤ set_to ticks timer))
  pub state :
      (timer : Timer) → IfSome (timer_in timer x.timers) (λ left. may_run timer x.head.state ≡ true)
  pub after_rel : IfSome x.timers.rel (λ left. (x.timers.int ≡ None) × (x.timers.repeat ≡ None))

abbrev pub EndRuns : Ticks → End → Type 0
EndRuns ticks (wire x) = SectionRuns ticks x
EndRuns ticks (owner u) = Unit {0}

abbrev pub BothRun : Ticks → Connection → Type 0
BothRun ticks c = EndRuns ticks c.this × EndRuns ticks c.that

-- The law, where each timer is set to one tick at least.
abbrev pub TimersRun : Type 0
TimersRun =
    (lane : Lane) (journal : List Entry) (i : ℕ) (o : Opening)
    → ((timer : Timer) → 1 ≤ set_to lane.terms.ticks timer)
    → slice_get (openings_from lane [] journal) i ≡ Some o
    → BothRun lane.terms.ticks (connection_of lane.terms.ticks o)

-- A quiet tick: where no timer of a connection fires, each that runs has a tick fewer left, nothing else changes, and
-- nothing leaves.

-- at the next tick no timer of the end fires
abbrev pub NoneFires : End → Type 0
NoneFires e = (timer : Timer) → is_due_at timer (ticked e) ≡ false

abbrev pub all_ticked : Connection → Connection
all_ticked c = record { this = ticked c.this; that = ticked c.that }

abbrev pub IsQuiet : Ticks → Connection → Type 0
IsQuiet ticks c = NoneFires c.this → NoneFires c.that → connection_step ticks c Tick ≡ (all_ticked c, [])

abbrev pub QuietTick : Type 0
QuietTick =
    (lane : Lane) (journal : List Entry) (i : ℕ) (o : Opening) → lane.terms.credit ≤ GREATEST_CREDIT
    → slice_get (openings_from lane [] journal) i ≡ Some o
    → IsQuiet lane.terms.ticks (connection_of lane.terms.ticks o)
