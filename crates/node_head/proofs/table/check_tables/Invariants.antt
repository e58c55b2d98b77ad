use Rattle.std.proofs.Common.{◌≡◌, ◌+◌, drop}
use Rattle.toml.specs.View.{items_view}
use Rattle.node_head.specs.Keys.{known_tables}
use Rattle.node_head.proofs.table.check_tables.Given as goal

-- the tables that are left
abbrev pub invariant-loop-index : goal.invariant-loop-index
invariant-loop-index l = known_tables l.array (l.index + 1) (items_view (drop l.index l.items.items)) ≡ known_tables l.array 1 (items_view l.items.items)
