use Rattle.std.specs.Fn.{FnReturnsAt}
use Rattle.block_threads.specs.Inner.Shares.{AreDone}
use Rattle.block_threads.proofs.shares.share.Given as goal

abbrev pub invariant-loop : goal.invariant-loop
invariant-loop g l = AreDone (FnReturnsAt g.F.Fn l.f) l.items l.done.items
