-- Status tests as timers that run.
use Rattle.std.specs.Prelude.{◌-◌, Bool, List}
use Rattle.plant_core.specs.declared.statuses.RemoteSubsystem.{RemoteSubsystem}
use Rattle.scmg.specs.Control.{StatusTest}
use Rattle.timer_wheel.specs.declared.due.Due.{Due}
use Rattle.timer_wheel.specs.Timers.{Armed}

-- the tests, and whether one more can begin without memory
pub record TestsState : Type 0 where
  pub tests : List StatusTest
  pub has_room : Bool

-- a timer has one tick left where its test has none before it is sent
abbrev pub test_of : Armed → StatusTest
test_of a = record { point = a.due.conn; ssn = a.due.timer; left = a.ticks - 1; interval = a.interval }

-- the subsystem of a timer
abbrev pub subsystem_at : Due → RemoteSubsystem
subsystem_at due = record { point = due.conn; ssn = due.timer }
