use Rattle.std.specs.Fn.{FnReturnsAt}
use Rattle.block_threads.specs.Inner.Shares.{AreCells, AreShares}
use Rattle.block_threads.proofs.each.put_shares.Given as goal

abbrev pub invariant-loop-share : goal.invariant-loop-share
invariant-loop-share g l = record {
  cells : AreCells (FnReturnsAt g.F.Fn l.f) l.items l.cells;
  shares : AreShares (FnReturnsAt g.F.Fn l.f) l.items l.share-iterator.rest.items;
}
