use Rattle.hop_law.proofs.Accepting.{units_are_taken}
use Rattle.hop_law.proofs.passing_laws.units_are_taken.Goals as goal

pub returns : goal.returns
returns c = units_are_taken
