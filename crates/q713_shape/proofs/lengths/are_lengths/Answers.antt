use Rattle.std.proofs.Common.{sym}
use Rattle.q713_shape.proofs.Counting.{have_lengths-good, have_lengths-bad}
use Rattle.q713_shape.proofs.lengths.are_lengths.Goals as goal

pub returns-then-not-allows : goal.returns-then-not-allows
returns-then-not-allows c = sym (have_lengths-bad c.args.rules.now c.args.values.now c.loop-i.i _ _ c.loop-i-test.true c.requires (sym c.if-not-allows.ensures) c.loop-i.invariant)

pub loop-i-preserved : goal.loop-i-preserved
loop-i-preserved c = have_lengths-good c.args.rules.now c.args.values.now c.loop-i.i _ _ c.loop-i-test.true c.requires (sym c.if-not-allows.ensures) c.loop-i.invariant
