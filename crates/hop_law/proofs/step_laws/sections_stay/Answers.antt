use Rattle.hop_law.proofs.Section.{sections_stay}
use Rattle.hop_law.proofs.step_laws.sections_stay.Goals as goal

pub returns : goal.returns
returns c = sections_stay
