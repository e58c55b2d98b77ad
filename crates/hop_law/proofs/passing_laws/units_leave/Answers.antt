use Rattle.hop_law.proofs.Leaving.{units_leave}
use Rattle.hop_law.proofs.passing_laws.units_leave.Goals as goal

pub returns : goal.returns
returns c = units_leave
