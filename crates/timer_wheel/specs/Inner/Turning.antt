-- What a tree is seen as at a tick.
use Rattle.std.specs.Prelude.{ℕ, ◌-◌, ◌<◌, List, All, map}
use Rattle.timer_wheel.specs.declared.due.Alarm.{Alarm}
use Rattle.timer_wheel.specs.declared.tree.Tree.{Tree}
use Rattle.timer_wheel.specs.Timers.{Armed}
use Rattle.timer_wheel.specs.Inner.Tree.{alarms, IsSound, Rises}

abbrev pub left_at : ℕ → Alarm → Armed
left_at now alarm = record { due = alarm.due; ticks = alarm.tick - now; interval = alarm.interval }

-- all running timers, with what is left of each
abbrev pub armed_at : ℕ → List Alarm → List Armed
armed_at now list = map (left_at now) list

-- a tree in order, whose timers fire later
pub record IsTurned (now : ℕ) (tree : Tree) : Type 0 where
  pub sound : IsSound tree
  pub rising : Rises (alarms tree)
  pub later : All (λ alarm. now < alarm.tick) (alarms tree)
