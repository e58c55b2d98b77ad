use Rattle.std.proofs.Common.{drop, nat_eq, arith, length-drop}
use Rattle.std.proofs.lemmas.List.Sums.{common_prefix_len-le}
use Rattle.gtt_table.proofs.search.shared_digits.Goals as goal

pub returns-else-shared-other : goal.returns-else-shared-other
returns-else-shared-other c =
    let mine = drop c.loop-shared.shared c.args.mine.now in
    let other = drop c.loop-shared.shared c.args.other.now in
    omega (arith, c.loop-shared.invariant, c.if-shared-other.false, (common_prefix_len-le nat_eq mine other).1, length-drop c.loop-shared.shared c.args.other.now)
