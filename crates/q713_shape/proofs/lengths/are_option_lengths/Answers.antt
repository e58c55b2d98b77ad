use Rattle.std.proofs.Common.{false, true, sym}
use Rattle.q713_shape.proofs.Counting.{have_option_lengths-next}
use Rattle.q713_shape.proofs.lengths.are_option_lengths.Goals as goal

pub returns-then-not-allows : goal.returns-then-not-allows
returns-then-not-allows c = sym (have_option_lengths-next c.args.names.now c.args.values.now c.loop-i.i c.loop-i-test.true c.requires false (sym c.if-not-allows.ensures) c.loop-i.invariant)

pub loop-i-preserved : goal.loop-i-preserved
loop-i-preserved c = have_option_lengths-next c.args.names.now c.args.values.now c.loop-i.i c.loop-i-test.true c.requires true (sym c.if-not-allows.ensures) c.loop-i.invariant
