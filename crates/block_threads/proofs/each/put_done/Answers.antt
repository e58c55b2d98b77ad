use Rattle.std.proofs.Common.{IfSome, subst, arith}
use Rattle.std.specs.List.{AllByRecursion}
use Rattle.std.specs.Fn.{FnReturnsAt}
use Rattle.block_threads.specs.Inner.Shares.{IsDone}
use Rattle.block_threads.proofs.BesideLemmas.{beside_length}
use Rattle.block_threads.proofs.each.put_done.Goals as goal

pub put_one-requires-clause-inside : goal.put_one-requires-clause-inside
put_one-requires-clause-inside g c =
    let is_done = IsDone (FnReturnsAt g.F.Fn c.args.f.now) c.args.items.now in
    let all = subst (AllByRecursion is_done) c.in-Some.ensures.steps.0 c.loop-number.invariant.done in
    omega (arith, all.0.0, beside_length (λ item cell. IfSome cell (FnReturnsAt g.F.Fn c.args.f.now item)) c.args.items.now c.loop-number.cells c.loop-number.invariant.cells)
