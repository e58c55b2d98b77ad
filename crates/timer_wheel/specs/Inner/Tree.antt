-- What a tree of timers holds.
use Rattle.std.specs.Prelude.{◌≡◌, nat_le, ℕ, ◌+◌, ◌-◌, ◌*◌, ◌≤◌, max, min, if◌then◌else◌, Bool, not, List, [], ◌∷◌, ◌++◌, All, AllPairs, filter, length, map, true}
use Rattle.timer_wheel.specs.declared.due.Due.{Due}
use Rattle.timer_wheel.specs.declared.due.Alarm.{Alarm}
use Rattle.timer_wheel.specs.declared.tree.Tree.{Tree}
use Rattle.timer_wheel.specs.declared.tree.Tree.TheVariants.{Leaf, Fork'}
use Rattle.timer_wheel.specs.Order.{is_before}

-- the timers from left to right
abbrev pub alarms : Tree → List Alarm
alarms Leaf = []
alarms (Fork' p left alarm rank soonest right) = alarms left ++ alarm ∷ alarms right

-- how many nodes there are: so many spare ones, and those of a tree
abbrev pub nodes_in : ℕ → Tree → ℕ
nodes_in spare tree = spare + length (alarms tree)

-- what each node says of those below it holds
abbrev pub IsSound : Tree → Type 0
IsSound Leaf = Unit {0}
IsSound (Fork' p left alarm rank soonest right) =
    IsSound left × IsSound right × All (λ a. soonest ≤ a.tick) (alarms left ++ alarm ∷ alarms right)

-- the timers before one, and those behind it
abbrev pub before : Due → List Alarm → List Alarm
before due list = filter (λ a. is_before a.due due) list

abbrev pub behind : Due → List Alarm → List Alarm
behind due list = filter (λ a. is_before due a.due) list

-- how many others there are
abbrev pub count_beside : Due → List Alarm → ℕ
count_beside due list = length (before due list) + length (behind due list)

-- this timer between those before it and those behind it
abbrev pub with_alarm : Alarm → List Alarm → List Alarm
with_alarm alarm list = before alarm.due list ++ alarm ∷ behind alarm.due list

-- up to this tick
abbrev pub fires : ℕ → Alarm → Bool
fires tick alarm = nat_le alarm.tick tick

abbrev pub due_by : ℕ → List Alarm → List Due
due_by tick list = map (λ a. a.due) (filter (fires tick) list)

abbrev pub not_fires : ℕ → Alarm → Bool
not_fires tick alarm = not (fires tick alarm)

-- each comes before all later ones
abbrev pub Rises : List Alarm → Type 0
Rises = AllPairs (λ earlier later. is_before earlier.due later.due ≡ true)

-- the same timer where ticks are counted from so many later
abbrev pub recounted : ℕ → Alarm → Alarm
recounted ticks alarm = record alarm { tick = alarm.tick - ticks }

-- a timer that fires up to this tick, started again from it with twice its interval, but no more than the most
abbrev pub tick_again : ℕ → ℕ → Alarm → ℕ
tick_again tick most alarm = if fires tick alarm then tick + max 1 (min (2 * alarm.interval) most) else alarm.tick

abbrev pub interval_again : ℕ → ℕ → Alarm → ℕ
interval_again tick most alarm = if fires tick alarm then min (2 * alarm.interval) most else alarm.interval

abbrev pub started_again : ℕ → ℕ → Alarm → Alarm
started_again tick most alarm =
    record { due = alarm.due; tick = tick_again tick most alarm; interval = interval_again tick most alarm }
