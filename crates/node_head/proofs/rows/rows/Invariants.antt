use Rattle.std.proofs.Common.{◌≡◌, drop, map, length, [], IsTrue}
use Rattle.toml.specs.View.{table_view}
use Rattle.node_head.specs.Addable.{are_addable}
use Rattle.node_head.specs.Rows.{rows_after}
use Rattle.node_head.proofs.rows.rows.Given as goal

-- the rows so far, by key and in their order, and those of what is left
abbrev pub invariant-loop-table : goal.invariant-loop-table
invariant-loop-table l = record {
  rest : rows_after l.own l.rows (map (λ t. table_view t.now) (drop l.table-index l.tables)) ≡ rows_after l.own [] (map (λ t. table_view t.now) l.tables);
  found : l.found.rows ≡ l.rows;
  count : length l.rows ≡ l.table-index;
  addable : IsTrue (are_addable [] l.rows);
}
