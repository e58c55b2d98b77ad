use Rattle.hop_law.proofs.ComingIn.{sections_stay_shut}
use Rattle.hop_law.proofs.step_laws.sections_stay_shut.Goals as goal

pub returns : goal.returns
returns c = sections_stay_shut
