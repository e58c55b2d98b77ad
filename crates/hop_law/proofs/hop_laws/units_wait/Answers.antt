use Rattle.hop_law.proofs.Queued.{units_wait}
use Rattle.hop_law.proofs.hop_laws.units_wait.Goals as goal

pub returns : goal.returns
returns c = units_wait
