use Rattle.std.proofs.Common.{◌≡◌, ◌≤◌, None, length, vec_capacity, All}
use Rattle.block_threads.proofs.each.empty_cells.Given as goal

abbrev pub invariant-loop : goal.invariant-loop
invariant-loop g l = record {
  count : length l.cells.items ≡ l.counter;
  room : l.count ≤ vec_capacity l.cells;
  empty : All (λ cell. cell ≡ None) l.cells.items;
}
