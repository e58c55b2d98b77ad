use Rattle.hop_law.proofs.Going.{units_go}
use Rattle.hop_law.proofs.step_laws.units_go.Goals as goal

pub returns : goal.returns
returns c = units_go
