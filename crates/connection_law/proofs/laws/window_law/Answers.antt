use Rattle.connection_law.proofs.Flow.Following.{flow_law}
use Rattle.connection_law.proofs.laws.window_law.Goals as goal

pub returns : goal.returns
returns c = flow_law
