-- The running timers of a lane's connections, as those of setting up, release, inactivity and reset
-- (Q.714, 3.1, 3.3, 3.4, 3.7), by rising connection and timer.
use Rattle.std.specs.Prelude.{◌≡◌, ◌==◌, ◌&&◌, ◌-◌, ◌*◌, ◌≤◌, ℕ, Bool, true, not, if◌then◌else◌, max, min, List, ◌∷◌, ◌++◌, All, AllPairs, filter, map}
use Rattle.timer_wheel.specs.declared.due.Due.{Due}
use Rattle.timer_wheel.specs.Order.{is_before}

-- A timer: how many ticks are left of it, and with how many it was started.
pub record Armed : Type 0 where
  pub due : Due
  pub ticks : ℕ
  pub interval : ℕ

-- The running timers, and for how many in all memory is there.
pub record Timers : Type 0 where
  pub armed : List Armed
  pub room : ℕ

abbrev pub timer_of : ℕ → ℕ → Due
timer_of conn timer = record { conn = conn; timer = timer }

abbrev pub is_timer : Due → Armed → Bool
is_timer due armed = armed.due.conn == due.conn && armed.due.timer == due.timer

-- all but this timer
abbrev pub others : Due → List Armed → List Armed
others due armed = filter (λ a. not (is_timer due a)) armed

abbrev pub before : Due → List Armed → List Armed
before due armed = filter (λ a. is_before a.due due) armed

abbrev pub behind : Due → List Armed → List Armed
behind due armed = filter (λ a. is_before due a.due) armed

-- this timer between those before it and those behind it
abbrev pub with_armed : Armed → List Armed → List Armed
with_armed a armed = before a.due armed ++ a ∷ behind a.due armed

-- this timer with so many ticks left
abbrev pub with_timer : Due → ℕ → List Armed → List Armed
with_timer due ticks armed = with_armed (record { due = due; ticks = ticks; interval = ticks }) armed

-- this timer with so many ticks left, but one where they are none
abbrev pub with_interval : Due → ℕ → List Armed → List Armed
with_interval due interval armed = with_armed (record { due = due; ticks = max 1 interval; interval = interval }) armed

-- the timers of which one tick is left
abbrev pub due_now : List Armed → List Due
due_now armed = map (λ a. a.due) (filter (λ a. a.ticks == 1) armed)

abbrev pub lowered : Armed → Armed
lowered a = record a { ticks = a.ticks - 1 }

-- a tick drops these, and lowers what is left of the others
abbrev pub after_tick : List Armed → List Armed
after_tick armed = map lowered (filter (λ a. not (a.ticks == 1)) armed)

-- a timer that a tick makes due, started again with so many ticks
abbrev pub again : ℕ → Armed → Armed
again interval a = record { due = a.due; ticks = max 1 interval; interval = interval }

-- a tick lowers what is left of a timer, or starts it again with twice its interval, but no more than the most
abbrev pub after_tick_again : ℕ → Armed → Armed
after_tick_again most a = if a.ticks == 1 then again (min (2 * a.interval) most) a else lowered a

-- each comes before all later ones
abbrev pub IsRising : List Armed → Type 0
IsRising armed = AllPairs (λ earlier later. is_before earlier.due later.due ≡ true) armed

-- something is left of each
abbrev pub AreRunning : List Armed → Type 0
AreRunning armed = All (λ a. 1 ≤ a.ticks) armed
