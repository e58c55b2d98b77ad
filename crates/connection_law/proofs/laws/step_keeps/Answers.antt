use Rattle.connection_law.proofs.Flow.Step.{step_keeps}
use Rattle.connection_law.proofs.laws.step_keeps.Goals as goal

pub returns : goal.returns
returns c = step_keeps
