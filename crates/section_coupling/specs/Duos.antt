-- A connection with the ticks of its timers, as the code keeps it.
use Rattle.std.specs.Prelude.{ℕ, ◌+◌, ◌/◌, ◌%◌, ◌==◌, if◌then◌else◌, Option, None, slice_index_or}
use Rattle.relay_base.specs.declared.words.Event.{Event}
use Rattle.relay_base.specs.declared.words.Event.TheVariants.{Message as Arrives, Asked as Requested, Tick}
use Rattle.plant_core.specs.declared.terms.Ticks.{Ticks}
use Rattle.section_model.specs.declared.cell.Timer.{Timer}
use Rattle.section_model.specs.declared.cell.Timer.TheVariants.{Repeat}
use Rattle.section_model.specs.Ends.{End, wire, owner, Connection}
use Rattle.section_model.specs.Parameters.{Arrival, arrival_in}
use Rattle.section_model.specs.Timing.{firing_order, timer_in}
use Rattle.connection_law.specs.InStep.{IsInStep}
use Rattle.section_coupling.specs.declared.pair.EndName.{EndName}
use Rattle.section_coupling.specs.declared.pair.EndName.TheVariants.{This, That}
use Rattle.section_coupling.specs.declared.pair.Pair.{Pair}
use Rattle.section_coupling.specs.Sound.{SoundPair}
use Rattle.section_coupling.specs.Views.{connection_at}

pub record DuoState : Type 0 where
  pub ticks : Ticks
  pub pair : Pair

-- What holds of every connection: lengths and credits, and what its two ends keep of windows, which hangs on no timer.
abbrev pub HoldsAt : Pair → Type 0
HoldsAt p = SoundPair p × IsInStep (connection_at 0 p)

-- the connection that it stands for after so many ticks
abbrev pub duo_at : ℕ → DuoState → Connection
duo_at now d = connection_at now d.pair

-- the end of a name, and the end of a number
abbrev pub end_named : EndName → Connection → End
end_named This c = c.this
end_named That c = c.that

abbrev pub end_numbered : ℕ → Connection → End
end_numbered side c = if side == 0 then c.this else c.that

-- the timer at a place, from 0, of the order in which timers fire
abbrev pub timer_placed : ℕ → Timer
timer_placed place = slice_index_or firing_order place Repeat

-- the ticks that are left of a timer of an end; a user's end has none
abbrev pub left_of_timer : Timer → End → Option ℕ
left_of_timer timer (wire x) = timer_in timer x.timers
left_of_timer timer (owner u) = None

-- A timer's number is 7 times that of its end, and its place in the order in which timers fire.
abbrev pub ticks_left : ℕ → Connection → Option ℕ
ticks_left timer c = left_of_timer (timer_placed (timer % 7)) (end_numbered (timer / 7) c)

-- how many ticks a lane has taken after an event
abbrev pub taken_after : ℕ → Event → ℕ
taken_after now (Arrives point sls bytes) = now
taken_after now (Requested ssn r) = now
taken_after now Tick = now + 1

-- the message for a connection that an event is, if it is one
abbrev pub arrival_of_event : Event → Option Arrival
arrival_of_event (Arrives point sls bytes) = arrival_in bytes
arrival_of_event (Requested ssn r) = None
arrival_of_event Tick = None
