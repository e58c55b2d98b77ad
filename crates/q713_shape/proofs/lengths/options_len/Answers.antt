use Rattle.q713_shape.proofs.Counting.{AreCounted-length, AreCounted-next}
use Rattle.q713_shape.proofs.lengths.options_len.Goals as goal

pub option_len-total-requires : goal.option_len-total-requires
option_len-total-requires c = AreCounted-length c.args.names.now c.args.values.now c.loop-i.total c.loop-i.i c.loop-i-test.true c.requires.values c.loop-i.invariant

pub loop-i-preserved : goal.loop-i-preserved
loop-i-preserved c = AreCounted-next c.args.names.now c.args.values.now c.loop-i.total c.loop-i.i c.option_len-total.result c.loop-i-test.true c.requires.values c.option_len-total.ensures.value c.option_len-total.ensures.small c.loop-i.invariant
