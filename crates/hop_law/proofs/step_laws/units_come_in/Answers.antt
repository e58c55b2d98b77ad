use Rattle.hop_law.proofs.ComingIn.{units_come_in}
use Rattle.hop_law.proofs.step_laws.units_come_in.Goals as goal

pub returns : goal.returns
returns c = units_come_in
