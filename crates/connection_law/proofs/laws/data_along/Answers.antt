use Rattle.connection_law.proofs.Message.Along.{data_along}
use Rattle.connection_law.proofs.laws.data_along.Goals as goal

pub returns : goal.returns
returns c = data_along
