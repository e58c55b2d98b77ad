use Rattle.std.proofs.Common.{Some, IfSome}
use Rattle.std.specs.Fn.{FnReturnsAt}
use Rattle.block_threads.proofs.EachLemmas.{beside_set}
use Rattle.block_threads.proofs.each.put_one.Goals as goal

pub returns : goal.returns
returns g c = beside_set (λ item cell. IfSome cell (FnReturnsAt g.F.Fn c.args._f.now item)) c.args._items.now c.args.cells.now c.args.number (Some c.args.x) c.requires.cells c.requires.done.1
