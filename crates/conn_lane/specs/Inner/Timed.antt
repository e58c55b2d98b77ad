-- When the connections of a lane wake: its wheel has the running timers of each that isn't over, under the connection's number in the lane's
-- journal. The number of a timer is 7 times that of its end, and its place in the order in which timers fire.
use Rattle.std.specs.Prelude.{◌≡◌, ◌==◌, ◌&&◌, nat_le, ℕ, ◌-◌, ◌<◌, ◌≤◌, min, max, true, false, Bool, List, [], ◌∷◌, get_or, Option, Some, None, option_map, option_to_list}
use Rattle.timer_wheel.specs.Timers.{Armed, Timers, timer_of}
use Rattle.section_coupling.specs.declared.duo.TheConstants.{TIMERS}
use Rattle.section_coupling.specs.Duos.{DuoState, duo_at, ticks_left}
use Rattle.conn_lane.specs.Inner.Placing.{ConnectionsState}
use Rattle.conn_lane.specs.Inner.Wheels.{ticks_of, SetsFirst}

-- How many ticks a lane has taken, its connections, and their timers.
pub record TimedState : Type 0 where
  pub taken : ℕ
  pub connections : ConnectionsState
  pub wheel : Timers

-- what a wheel has for a timer of which so many ticks are left, where its lane took so many: these, but one at least, and none beyond the lane's
-- tick 2^32 - 1
abbrev pub ticks_in_wheel : ℕ → ℕ → ℕ
ticks_in_wheel taken left = max (min left (4294967295 - taken)) 1

-- the ticks that a wheel has for a timer of a connection, where the connection isn't over and the timer runs
abbrev pub timer_left : ℕ → ℕ → Option DuoState → Option ℕ
timer_left taken timer None = None
timer_left taken timer (Some d) = option_map (ticks_in_wheel taken) (ticks_left timer (duo_at taken d))

-- The wheel.

-- with the timers of a connection that is as it is now, after so many ticks of its lane
abbrev pub SetsTimers : ℕ → ℕ → Option DuoState → List Armed → List Armed → Type 0
SetsTimers taken number one old new = SetsFirst number TIMERS (λ timer. timer_left taken timer one) old new

-- A timer of which so many ticks are left stands in the wheel with these, but where one is left: then a tick dropped it, or it stands there yet.
abbrev pub IsLeft : Option ℕ → List ℕ → Type 0
IsLeft None ticks = ticks ≡ []
IsLeft (Some left) ticks = 2 ≤ left → ticks ≡ left ∷ []

-- the same of each timer of a connection
abbrev pub AreLeft : ℕ → ℕ → Option DuoState → List Armed → Type 0
AreLeft taken number one armed = (timer : ℕ) → timer < TIMERS → IsLeft (timer_left taken timer one) (ticks_of (timer_of number timer) armed)

-- a timer of which so many ticks were left stands in the wheel as it is to be
abbrev pub stands : Option ℕ → Option ℕ → Bool
stands None None = true
stands (Some before) (Some left) = before == left && nat_le 2 left
stands _ _ = false

-- What holds of it: it has each running timer of a connection that isn't over, once, with the ticks that are left of it, and it has no others.
pub record IsTimed (taken : ℕ) (kept : List (Option DuoState)) (armed : List Armed) : Type 0 where
  pub running : (number timer : ℕ) → timer < TIMERS
      → ticks_of (timer_of number timer) armed ≡ option_to_list (timer_left taken timer (get_or kept number None))
  pub others : (number timer : ℕ) → TIMERS ≤ timer → ticks_of (timer_of number timer) armed ≡ []
