use Rattle.connection_law.proofs.Flow.Opening.{opening_keeps}
use Rattle.connection_law.proofs.laws.opening_keeps.Goals as goal

pub returns : goal.returns
returns c = opening_keeps
