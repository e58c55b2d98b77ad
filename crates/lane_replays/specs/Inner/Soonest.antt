-- When the connections of a list wake: beside each stands the tick of its lane at which the first of its running timers fires.
use Rattle.std.specs.Prelude.{◌≡◌, ◌&&◌, nat_le, nat_lt, ℕ, ◌+◌, ◌-◌, ◌<◌, ◌≤◌, Bool, List, length, get_or, Option, Some, None, IfSome}
use Rattle.section_coupling.specs.declared.duo.TheConstants.{TIMERS}
use Rattle.section_coupling.specs.Duos.{DuoState, duo_at, ticks_left}

-- How many ticks a lane has taken; its connections; beside each the tick at which it wakes first; and for how many more there is memory.
pub record ListedState : Type 0 where
  pub taken : ℕ
  pub kept : List (Option DuoState)
  pub soonest : List ℕ
  pub room : ℕ

-- a timer of a connection doesn't fire before this tick: where the next tick comes before it, two ticks are left at least, whatever tick it is
abbrev pub FiresFrom : ℕ → ℕ → DuoState → Type 0
FiresFrom timer soonest d = (now : ℕ) → now + 1 < soonest → IfSome (ticks_left timer (duo_at now d)) (λ left. 2 ≤ left)

-- none of its timers of a number below this one does
abbrev pub FirstFireFrom : ℕ → ℕ → DuoState → Type 0
FirstFireFrom count soonest d = (timer : ℕ) → timer < count → FiresFrom timer soonest d

-- nor does any, unless it is over
abbrev pub WakesFrom : ℕ → Option DuoState → Type 0
WakesFrom soonest None = Unit {0}
WakesFrom soonest (Some d) = FirstFireFrom TIMERS soonest d

-- What holds of the list.
pub record AreListed (kept : List (Option DuoState)) (soonest : List ℕ) : Type 0 where
  pub count : length soonest ≡ length kept
  pub each : (number : ℕ) → WakesFrom (get_or soonest number 0) (get_or kept number None)

-- the next tick is this one, or comes after it
abbrev pub is_due : ℕ → ℕ → Bool
is_due taken soonest = nat_le (soonest - 1) taken

-- the connections that wake by the next tick
abbrev pub wakes : ℕ → List ℕ → ℕ → Bool
wakes taken soonest number = nat_lt number (length soonest) && is_due taken (get_or soonest number 0)
