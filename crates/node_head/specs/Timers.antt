-- The timers of a head, in ticks.
use Rattle.std.specs.Prelude.{ℕ, codes, max, List, Option, Some, None, Ok}
use Rattle.std.specs.declared.result.Result.{Result}
use Rattle.relay_base.specs.Giving.{◌>>=◌}
use Rattle.plant_core.specs.declared.terms.Ticks.{Ticks}
use Rattle.toml.specs.Data.{Data, Members, no_members, as_table}
use Rattle.node_head.specs.declared.fault.HeadFault.{HeadFault}
use Rattle.node_head.specs.declared.fault.HeadKind.TheVariants as kind
use Rattle.node_head.specs.declared.section.Place.{Place}
use Rattle.node_head.specs.declared.section.Place.TheVariants.{Timers}
use Rattle.plant_core.specs.declared.terms.TheConstants.{MOST_TICKS}
use Rattle.node_head.specs.Keys.{usual, number_at}
use Rattle.node_head.specs.Refusals.{fault, or_fault}

-- the ticks at a key: their default, and the range from the least to 65,535
unfoldable pub ticks_at : Place → Members → List ℕ → ℕ → ℕ → Result ℕ HeadFault
ticks_at place ms key default least = number_at place ms key (usual default least MOST_TICKS)

-- the timers with their keys, defaults and least values: T(conn est) (Q.714, 3.1), T(ias) and T(iar) (3.4), T(rel), T(repeat rel)
-- and T(int) (3.3), T(reset) (3.7), T(reassembly) (4.1.1), how long a local reference is frozen (3.3.2), T(stat info) at first and
-- at most (5.3.4), and T(coord chg) (5.3.5)
unfoldable pub ticks_of : Place → Members → Result Ticks HeadFault
ticks_of place ms = do
  connect ← ticks_at place ms (codes "connect") 90 1
  ias ← ticks_at place ms (codes "ias") 420 60
  iar ← ticks_at place ms (codes "iar") 900 1
  rel ← ticks_at place ms (codes "rel") 15 1
  repeat ← ticks_at place ms (codes "repeat") 15 5
  int ← ticks_at place ms (codes "int") 60 1
  reset ← ticks_at place ms (codes "reset") 15 1
  reassembly ← ticks_at place ms (codes "reassembly") 15 1
  freeze ← ticks_at place ms (codes "freeze") 60 1
  status ← ticks_at place ms (codes "status") 30 1
  status_max ← ticks_at place ms (codes "status_max") (max 600 status) status
  coord ← ticks_at place ms (codes "coord") 90 1
  Ok (record {
    connect = connect;
    ias = ias;
    iar = iar;
    rel = rel;
    repeat = repeat;
    int = int;
    reset = reset;
    reassembly = reassembly;
    freeze = freeze;
    status = status;
    status_max = status_max;
    coord = coord;
  })

-- the timers of a table, all with their defaults where there is none
unfoldable pub timers_value : Option Data → Result Ticks HeadFault
timers_value None = ticks_of Timers no_members
timers_value (Some d) = do
  table ← or_fault (as_table d) (fault kind.Kind (codes "timers"))
  ticks_of Timers table
