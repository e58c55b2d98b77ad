use Rattle.q713_shape.proofs.Counting.{IsCounted-length, IsCounted-next}
use Rattle.q713_shape.proofs.lengths.variables_len.Goals as goal

pub variable_len-total-requires : goal.variable_len-total-requires
variable_len-total-requires c = IsCounted-length c.args.rules.now c.args.values.now c.loop-i.total c.loop-i.i _ _ c.loop-i-test.true c.requires.values c.loop-i.invariant

pub loop-i-preserved : goal.loop-i-preserved
loop-i-preserved c = IsCounted-next c.args.rules.now c.args.values.now c.loop-i.total c.loop-i.i c.variable_len-total.result _ _ c.loop-i-test.true c.requires.values c.variable_len-total.ensures.value c.variable_len-total.ensures.small c.loop-i.invariant
