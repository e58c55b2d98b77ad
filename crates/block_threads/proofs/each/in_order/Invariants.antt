use Rattle.std.proofs.Common.{◌+◌, ◌≤◌, length, vec_capacity}
use Rattle.std.specs.Fn.{FnReturnsAt}
use Rattle.block_threads.specs.Items.{Beside}
use Rattle.block_threads.specs.Inner.Shares.{AreCells}
use Rattle.block_threads.proofs.EachLemmas.{GoesOn}
use Rattle.block_threads.proofs.each.in_order.Given as goal

-- whatever is of the items that are left, behind what is there it is of all
abbrev pub invariant-loop-cell : goal.invariant-loop-cell
invariant-loop-cell g l = record {
  so_far : GoesOn (Beside (FnReturnsAt g.F.Fn l.f) l.items) (Beside (FnReturnsAt g.F.Fn l.f) l.rest) l.all.items;
  cells : AreCells (FnReturnsAt g.F.Fn l.f) l.rest l.cell-iterator.rest.items;
  room : length l.all.items + length l.cell-iterator.rest.items ≤ vec_capacity l.all;
}
