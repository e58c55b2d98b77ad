use Rattle.connection_law.proofs.Message.Sent.{data_sent}
use Rattle.connection_law.proofs.laws.data_sent.Goals as goal

pub returns : goal.returns
returns c = data_sent
