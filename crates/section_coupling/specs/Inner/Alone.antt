-- What one end does in a part of a step, before the ends hand to each other.
use Rattle.std.specs.Prelude.{ℕ, ◌==◌, ◌&&◌, [], ◌∷◌, if◌then◌else◌, Option, Some, None}
use Rattle.relay_base.specs.declared.words.Output.TheVariants.{Lost as Dropped}
use Rattle.relay_base.specs.declared.words.Lost.TheVariants as lost
use Rattle.relay_base.specs.declared.words.Reason.{Reason}
use Rattle.relay_base.specs.declared.words.Reason.TheVariants as reason
use Rattle.relay_base.specs.declared.words.Request.{Request}
use Rattle.plant_core.specs.declared.terms.Ticks.{Ticks}
use Rattle.section_model.specs.declared.cell.Cell.{Cell}
use Rattle.section_model.specs.declared.cell.Timer.{Timer}
use Rattle.section_model.specs.declared.hand.Acted.{Acted}
use Rattle.section_model.specs.Ends.{User, End, wire, owner, gives, no_effect, is_up}
use Rattle.section_model.specs.Acting.{timed, by_windows, section_fires}
use Rattle.section_model.specs.Table.{section_cell}
use Rattle.section_model.specs.Timing.{firing, rearmed}
use Rattle.section_model.specs.UserEnd.{user_asks}
use Rattle.section_model.specs.Step.{asking_cell, reason_against, said_no, is_from_elsewhere, in_touch}
use Rattle.section_class3.specs.Windows.{windows_turn}
use Rattle.section_coupling.specs.declared.clock.Clock.{Clock}
use Rattle.section_coupling.specs.declared.coming.Coming.{Coming}
use Rattle.section_coupling.specs.Inner.Comings.{hears_coming}

-- a part of what follows each event: on a section of class 3 that is up
abbrev pub turns_alone : Ticks → Cell → End → End × Acted
turns_alone ticks c (wire x) =
    if is_up x.head.state && x.head.class == 3 then timed ticks x (by_windows (windows_turn c) x) else (wire x, no_effect)
turns_alone ticks c (owner u) = (owner u, no_effect)

-- a timer fires
abbrev pub fires_alone : Ticks → Timer → End → End × Acted
fires_alone ticks timer (wire x) =
    section_fires ticks (section_cell x.head.state (firing timer)) (record x { timers = rearmed ticks timer x.timers })
fires_alone ticks timer (owner u) = (owner u, no_effect)

-- a message
abbrev pub hears_alone : Clock → Coming → End → End × Acted
hears_alone clock c (wire x) =
    if is_from_elsewhere c.point x.head then (wire x, gives (Dropped lost.Point ∷ [])) else hears_coming clock c (in_touch clock.ticks x)
hears_alone clock c (owner u) = (owner u, no_effect)

-- a request, unless there is a reason against it
abbrev pub asks_unless : Option Reason → Request → User → User × Acted
asks_unless (Some why) r u = (u, gives (said_no u.ssn why))
asks_unless None r u = user_asks (asking_cell u.state r) r u

-- a request of a subsystem, beside the other end
abbrev pub user_asks_beside : ℕ → Request → User → End → User × Acted
user_asks_beside ssn r u (wire x) = if u.ssn == ssn then asks_unless (reason_against r u x) r u else (u, gives (said_no ssn reason.Owner))
user_asks_beside ssn r u (owner v) = (u, gives (said_no ssn reason.Owner))

abbrev pub asks_beside : ℕ → Request → End → End → End × Acted
asks_beside ssn r (owner u) that = let done = user_asks_beside ssn r u that in (owner done.0, done.1)
asks_beside ssn r (wire x) that = (wire x, gives (said_no ssn reason.Owner))
