use Rattle.std.proofs.Common.{◌≡◌, ◌++◌, drop, take, IsTrue}
use Rattle.node_head.specs.Addable.{are_addable}
use Rattle.right_book.proofs.heads.add_rows.Given as goal

-- the rows so far were added, and those that are left can be
abbrev pub invariant-loop-row : goal.invariant-loop-row
invariant-loop-row l = record {
  edition : l.plant.edition ≡ 0;
  added : l.plant.routing ≡ record l.initial.plant.routing { rows = l.initial.plant.routing.rows ++ take l.row-index l.rows };
  addable : IsTrue (are_addable l.plant.routing.rows (drop l.row-index l.rows));
}
