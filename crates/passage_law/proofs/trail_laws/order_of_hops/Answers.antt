use Rattle.passage_law.proofs.Ordering.{order_of_hops}
use Rattle.passage_law.proofs.trail_laws.order_of_hops.Goals as goal

pub returns : goal.returns
returns c = order_of_hops
