use Rattle.connection_law.proofs.Message.Sent.{expedited_sent}
use Rattle.connection_law.proofs.laws.expedited_sent.Goals as goal

pub returns : goal.returns
returns c = expedited_sent
