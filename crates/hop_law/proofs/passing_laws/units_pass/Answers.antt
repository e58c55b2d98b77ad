use Rattle.hop_law.proofs.Passing.{units_pass}
use Rattle.hop_law.proofs.passing_laws.units_pass.Goals as goal

pub returns : goal.returns
returns c = units_pass
