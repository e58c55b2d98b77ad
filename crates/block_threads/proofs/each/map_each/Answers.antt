use Rattle.std.proofs.Common.{◌≡◌, sym, subst, rules}
use Rattle.std.specs.Fn.{FnReturnsAt}
use Rattle.block_threads.specs.Inner.Shares.{AreCells}
use Rattle.block_threads.proofs.EachLemmas.{beside_empty}
use Rattle.block_threads.proofs.each.map_each.Goals as goal

pub put_shares-requires-clause-cells : goal.put_shares-requires-clause-cells
put_shares-requires-clause-cells g c =
    let gives = FnReturnsAt g.F.Fn c.args.f.now in
    let cells = c.in_ok-cells.cells.items in
    let lent : c.as_mut_slice.result.now ≡ cells = search rules in
    subst (AreCells gives c.args.items.now) (sym lent) (beside_empty gives c.args.items.now cells c.in_ok-cells.ensures.count c.in_ok-cells.ensures.empty)
