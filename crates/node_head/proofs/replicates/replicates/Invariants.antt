use Rattle.std.proofs.Common.{◌≡◌, drop, map, length, []}
use Rattle.toml.specs.View.{table_view}
use Rattle.node_head.specs.Replicates.{replicates_after}
use Rattle.node_head.proofs.replicates.replicates.Given as goal

-- the replicates so far, and those of what is left
abbrev pub invariant-loop-table : goal.invariant-loop-table
invariant-loop-table l = record {
  rest : replicates_after l.own l.users l.found (map (λ t. table_view t.now) (drop l.table-index l.tables)) ≡ replicates_after l.own l.users [] (map (λ t. table_view t.now) l.tables);
  count : length l.found ≡ l.table-index;
}
