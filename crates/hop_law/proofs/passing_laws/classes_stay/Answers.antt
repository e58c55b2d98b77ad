use Rattle.hop_law.proofs.Classes.{classes_stay}
use Rattle.hop_law.proofs.passing_laws.classes_stay.Goals as goal

pub returns : goal.returns
returns c = classes_stay
