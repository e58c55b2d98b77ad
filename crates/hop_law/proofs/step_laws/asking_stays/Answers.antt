use Rattle.hop_law.proofs.Setup.{asking_stays}
use Rattle.hop_law.proofs.step_laws.asking_stays.Goals as goal

pub returns : goal.returns
returns c = asking_stays
