-- The timers of a head, three by three.
use Rattle.std.specs.Prelude.{ℕ, codes, max, Ok}
use Rattle.std.specs.declared.result.Result.{Result}
use Rattle.relay_base.specs.Giving.{◌>>=◌}
use Rattle.plant_core.specs.declared.terms.Ticks.{Ticks}
use Rattle.toml.specs.Data.{Members}
use Rattle.node_head.specs.declared.fault.HeadFault.{HeadFault}
use Rattle.node_head.specs.declared.section.Place.{Place}
use Rattle.node_head.specs.Timers.{ticks_at}

-- T(conn est), T(ias), T(iar)
unfoldable pub connection_ticks : Place → Members → Result (ℕ × ℕ × ℕ) HeadFault
connection_ticks place ms = do
  connect ← ticks_at place ms (codes "connect") 90 1
  ias ← ticks_at place ms (codes "ias") 420 60
  iar ← ticks_at place ms (codes "iar") 900 1
  Ok (connect, ias, iar)

-- T(rel), T(repeat rel), T(int)
unfoldable pub release_ticks : Place → Members → Result (ℕ × ℕ × ℕ) HeadFault
release_ticks place ms = do
  rel ← ticks_at place ms (codes "rel") 15 1
  repeat ← ticks_at place ms (codes "repeat") 15 5
  int ← ticks_at place ms (codes "int") 60 1
  Ok (rel, repeat, int)

-- T(reset), T(reassembly), and how long a local reference is frozen
unfoldable pub waiting_ticks : Place → Members → Result (ℕ × ℕ × ℕ) HeadFault
waiting_ticks place ms = do
  reset ← ticks_at place ms (codes "reset") 15 1
  reassembly ← ticks_at place ms (codes "reassembly") 15 1
  freeze ← ticks_at place ms (codes "freeze") 60 1
  Ok (reset, reassembly, freeze)

-- T(stat info) at first and at most, T(coord chg)
unfoldable pub management_ticks : Place → Members → Result (ℕ × ℕ × ℕ) HeadFault
management_ticks place ms = do
  status ← ticks_at place ms (codes "status") 30 1
  status_max ← ticks_at place ms (codes "status_max") (max 600 status) status
  coord ← ticks_at place ms (codes "coord") 90 1
  Ok (status, status_max, coord)

abbrev pub Three : Type 0
Three = ℕ × ℕ × ℕ

-- the timers of the four groups
abbrev pub all_ticks : Three → Three → Three → Three → Result Ticks HeadFault
all_ticks connection release waiting management = Ok (record {
  connect = connection.0;
  ias = connection.1;
  iar = connection.2;
  rel = release.0;
  repeat = release.1;
  int = release.2;
  reset = waiting.0;
  reassembly = waiting.1;
  freeze = waiting.2;
  status = management.0;
  status_max = management.1;
  coord = management.2;
})

unfoldable pub grouped_ticks : Place → Members → Result Ticks HeadFault
grouped_ticks place ms = do
  connection ← connection_ticks place ms
  release ← release_ticks place ms
  waiting ← waiting_ticks place ms
  management ← management_ticks place ms
  all_ticks connection release waiting management
