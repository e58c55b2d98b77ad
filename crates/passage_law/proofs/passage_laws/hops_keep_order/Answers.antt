use Rattle.passage_law.proofs.Trails.{hops_keep_order}
use Rattle.passage_law.proofs.passage_laws.hops_keep_order.Goals as goal

pub returns : goal.returns
returns c = hops_keep_order
