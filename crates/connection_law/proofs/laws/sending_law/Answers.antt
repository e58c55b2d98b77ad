use Rattle.connection_law.proofs.Flow.Sending.{sending_law}
use Rattle.connection_law.proofs.laws.sending_law.Goals as goal

pub returns : goal.returns
returns c = sending_law
