use Rattle.std.proofs.Common.{arith}
use Rattle.std.proofs.lemmas.Grind.{common_steps}
use Rattle.node_head.proofs.numbers.numbers.Goals as goal

pub loop-integer-preserved : goal.loop-integer-preserved
loop-integer-preserved g c = grind (arith, common_steps)
