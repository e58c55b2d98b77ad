use Rattle.hop_law.proofs.Setup.{asking_is_answered}
use Rattle.hop_law.proofs.step_laws.asking_is_answered.Goals as goal

pub returns : goal.returns
returns c = asking_is_answered
