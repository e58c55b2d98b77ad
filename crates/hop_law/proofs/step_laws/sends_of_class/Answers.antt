use Rattle.hop_law.proofs.Going.{sends_of_class}
use Rattle.hop_law.proofs.step_laws.sends_of_class.Goals as goal

pub returns : goal.returns
returns c = sends_of_class
