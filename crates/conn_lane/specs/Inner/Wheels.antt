-- The timers of a wheel, one by one, and the connections of those that are due.
use Rattle.std.specs.Prelude.{◌≡◌, ◌==◌, ℕ, ◌+◌, ◌<◌, ◌≤◌, Bool, List, [], ◌∷◌, length, map, filter, Option, Some, None, option_to_list}
use Rattle.std.specs.List.{list_any}
use Rattle.timer_wheel.specs.declared.due.Due.{Due}
use Rattle.timer_wheel.specs.Timers.{Armed, timer_of, is_timer, others, with_timer}
use Rattle.conn_journal.specs.Inner.Waking.{is_in, AreRising}

-- the ticks that a wheel has for a timer: one number where it runs, and none else
abbrev pub ticks_of : Due → List Armed → List ℕ
ticks_of due armed = map (λ a. a.ticks) (filter (is_timer due) armed)

-- with a timer that runs for so many ticks, or that doesn't run
abbrev pub with_ticks : Due → Option ℕ → List Armed → List Armed
with_ticks due None armed = others due armed
with_ticks due (Some ticks) armed = with_timer due ticks armed

-- a timer runs for so many ticks, or doesn't run, and all others stay
pub record SetsOne (due : Due) (left : Option ℕ) (old new : List Armed) : Type 0 where
  pub own : ticks_of due new ≡ option_to_list left
  pub others : (other : Due) → (other ≡ due → ⊥) → ticks_of other new ≡ ticks_of other old
  pub few : length new ≤ length old + 1

-- the same for so many timers of a connection
pub record SetsFirst (number count : ℕ) (left : ℕ → Option ℕ) (old new : List Armed) : Type 0 where
  pub own : (timer : ℕ) → timer < count → ticks_of (timer_of number timer) new ≡ option_to_list (left timer)
  pub others : (other : Due) → ((timer : ℕ) → timer < count → other ≡ timer_of number timer → ⊥) → ticks_of other new ≡ ticks_of other old
  pub few : length new ≤ length old + count

-- The connections of timers.

abbrev pub is_due : ℕ → List Due → Bool
is_due number due = list_any (λ d. d.conn == number) due

-- timers of connections from this one on, in their order
abbrev pub AreOrdered : ℕ → List Due → Type 0
AreOrdered from [] = Unit {0}
AreOrdered from (d ∷ due) = (from ≤ d.conn) × AreOrdered d.conn due

-- the connections of these timers, each once, and a number above them all
pub record AreConnections (due : List Due) (numbers : List ℕ) : Type 0 where
  pub above : ℕ
  pub rising : AreRising above 0 numbers
  pub same : (number : ℕ) → is_in number numbers ≡ is_due number due
