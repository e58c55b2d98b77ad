-- What the code of a lane keeps, after so many ticks of the lane.
use Rattle.std.specs.Prelude.{◌≡◌, ℕ, ◌+◌, false, List, [], map, Option, option_map}
use Rattle.relay_base.specs.declared.words.Event.TheVariants.{Tick}
use Rattle.section_model.specs.Step.{is_over, connection_step}
use Rattle.section_coupling.specs.Duos.{DuoState, duo_at}
use Rattle.local_refs.specs.Slots.{LaneSlots}
use Rattle.conn_journal.specs.Inner.Remnants.{Live}

-- a connection that is kept isn't over
abbrev pub IsAlive : DuoState → Type 0
IsAlive d = is_over (duo_at 0 d) ≡ false

-- the next tick only brings its timers nearer
abbrev pub IsIdle : ℕ → DuoState → Type 0
IsIdle now d = connection_step d.ticks (duo_at now d) Tick ≡ (duo_at (now + 1) d, [])

abbrev pub live_at : ℕ → DuoState → Live
live_at now d = record { ticks = d.ticks; connection = duo_at now d }

abbrev pub lives_at : ℕ → List (Option DuoState) → List (Option Live)
lives_at now kept = map (option_map (live_at now)) kept

-- How many ticks a lane has taken; its connections by their numbers in its journal, each until it is over; its slots; and for each slot
-- the number of the connection an end of which has it.
pub record OpeningsState : Type 0 where
  pub taken : ℕ
  pub kept : List (Option DuoState)
  pub slots : LaneSlots
  pub owners : List (Option ℕ)

-- The same, with the store that keeps the connections.
pub record StoredOpenings (S : Type 0) : Type 0 where
  pub state : OpeningsState
  pub store : S
