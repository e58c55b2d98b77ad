-- The connection that the code stands for, after so many ticks of its lane.
use Rattle.std.specs.Prelude.{◌≡◌, ℕ, ◌-◌, List, ◌++◌, Option, option_map}
use Rattle.relay_base.specs.declared.words.Output.{Output}
use Rattle.section_model.specs.declared.hand.Acted.{Acted}
use Rattle.section_model.specs.Views.{section_of}
use Rattle.section_model.specs.Ends.{Section, User, End, wire, owner, Connection, Timers as TicksLeft}
use Rattle.section_user.specs.Side.{user_of}
use Rattle.section_coupling.specs.declared.clock.Clock.{Clock}
use Rattle.section_coupling.specs.declared.timers.Timers.{Timers}
use Rattle.section_coupling.specs.declared.wire.Wire.{Wire}
use Rattle.section_coupling.specs.declared.owner.Owner.{Owner}
use Rattle.section_coupling.specs.declared.side.Side.{Side}
use Rattle.section_coupling.specs.declared.side.Side.TheVariants as side
use Rattle.section_coupling.specs.declared.pair.Pair.{Pair}

-- the ticks that are left of a timer that fires at a tick
abbrev pub left_at : ℕ → Option ℕ → Option ℕ
left_at now deadline = option_map (λ tick. tick - now) deadline

abbrev pub timers_at : ℕ → Timers → TicksLeft
timers_at now t = record {
  connect = left_at now t.connect;
  reset = left_at now t.reset;
  iar = left_at now t.iar;
  ias = left_at now t.ias;
  rel = left_at now t.rel;
  int = left_at now t.int;
  repeat = left_at now t.repeat;
}

-- a section; what came in stands in its line, in both classes
abbrev pub section_at : ℕ → Wire → Section
section_at now w = record {
  head = section_of w.head;
  kept = w.line.kept;
  windows = record w.windows.windows { got = w.line.came.value.got; passed = w.line.came.value.passed };
  timers = timers_at now w.timers;
}

-- a user's end, with what the user gave
abbrev pub user_at : Owner → User
user_at o = user_of o.side o.given.value.got o.given.value.passed

abbrev pub end_at : ℕ → Side → End
end_at now (side.Wire w) = wire (section_at now w)
end_at now (side.User o) = owner (user_at o)

abbrev pub connection_at : ℕ → Pair → Connection
connection_at now p = record { this = end_at now p.this; that = end_at now p.that }

-- The same by a lane's clock, and what an act makes of it.

abbrev pub timers_by : Clock → Timers → TicksLeft
timers_by clock t = timers_at clock.taken t

abbrev pub section_by : Clock → Wire → Section
section_by clock w = section_at clock.taken w

abbrev pub end_by : Clock → Side → End
end_by clock s = end_at clock.taken s

abbrev pub connection_by : Clock → Pair → Connection
connection_by clock p = connection_at clock.taken p

-- two ends
abbrev pub ends_by : Clock → Side → Side → Connection
ends_by clock this that = record { this = end_by clock this; that = end_by clock that }

-- two ends, and the outputs that are there
abbrev pub standing : Clock → Side → Side → List Output → Connection × List Output
standing clock this that outs = (ends_by clock this that, outs)

-- a part of a step, behind the outputs that are there
abbrev pub behind : List Output → Connection × List Output → Connection × List Output
behind outs done = (done.0, outs ++ done.1)

-- this is what the definition gives: the section, or the end, and what it hands over and gives
abbrev pub IsAct : Clock → End × Acted → Wire → Acted → Type 0
IsAct clock given w acted = given ≡ (wire (section_by clock w), acted)

abbrev pub IsEndAct : Clock → End × Acted → Side → Acted → Type 0
IsEndAct clock given s acted = given ≡ (end_by clock s, acted)
