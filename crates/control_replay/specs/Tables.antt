-- The table of the editions of a control journal, and what may be named of them at the start of a lane.
use Rattle.std.specs.Prelude.{◌≡◌, ◌≤◌, ◌+◌, ℕ, List, length, get_or}
use Rattle.plant_core.specs.declared.change.Group.{Group}
use Rattle.plant_core.specs.declared.entry.ControlEntry.{ControlEntry}
use Rattle.node_head.specs.declared.head.Head.{Head}
use Rattle.right_book.specs.Heads.{routing_of}
use Rattle.right_book.specs.Editions.{editions_before}
use Rattle.lane_events.specs.Editions.{Named}

-- how many editions a control journal published before each phase, from phase 0 to the one behind the last of so many
pub record IsTable (phases : ℕ) (control : List ControlEntry) (table : List ℕ) : Type 0 where
  pub size : length table ≡ phases + 2
  pub each : (phase : ℕ) → phase ≤ phases + 1 → get_or table phase 0 ≡ editions_before phase control

-- the routing data of the head, to which these groups of changes were published, so many before each phase, and no edition is named yet
abbrev pub named_first : Head → List Group → List ℕ → Named
named_first head groups table = record { start = routing_of head; groups = groups; before = table; edition = 0 }
