use Rattle.std.specs.Fn.{FnReturnsAt}
use Rattle.block_threads.specs.Inner.Shares.{AreCells, AreDone}
use Rattle.block_threads.proofs.each.put_done.Given as goal

abbrev pub invariant-loop-number : goal.invariant-loop-number
invariant-loop-number g l = record {
  cells : AreCells (FnReturnsAt g.F.Fn l.f) l.items l.cells;
  done : AreDone (FnReturnsAt g.F.Fn l.f) l.items l.number-iterator.rest.items;
}
