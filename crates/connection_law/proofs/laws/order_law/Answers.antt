use Rattle.connection_law.proofs.Flow.Ordering.{order_law}
use Rattle.connection_law.proofs.laws.order_law.Goals as goal

pub returns : goal.returns
returns c = order_law
