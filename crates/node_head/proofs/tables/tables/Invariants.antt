use Rattle.std.proofs.Common.{◌≡◌, drop, map, []}
use Rattle.toml.specs.View.{table_view, items_view}
use Rattle.node_head.specs.Tables.{tables_after}
use Rattle.node_head.proofs.tables.tables.Given as goal

-- the tables so far, and those of what is left
abbrev pub invariant-loop-value : goal.invariant-loop-value
invariant-loop-value l = tables_after (map (λ t. table_view t.now) l.found.items) (items_view (drop l.value-index l.array.items)) ≡ tables_after [] (items_view l.array.items)
