use Rattle.std.proofs.Common.{arith}
use Rattle.std.proofs.lemmas.Grind.{common_steps}
use Rattle.node_head.proofs.replicates.replicates.Goals as goal

pub loop-table-preserved : goal.loop-table-preserved
loop-table-preserved c = record { rest = grind (arith, common_steps); count = grind (arith, common_steps) }
