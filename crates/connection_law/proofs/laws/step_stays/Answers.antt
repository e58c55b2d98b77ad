use Rattle.connection_law.proofs.Reference.Step.{step_stays}
use Rattle.connection_law.proofs.laws.step_stays.Goals as goal

pub returns : goal.returns
returns c = step_stays
