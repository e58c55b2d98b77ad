use Rattle.hop_law.proofs.Unset.{nothing_passes}
use Rattle.hop_law.proofs.step_laws.nothing_passes.Goals as goal

pub returns : goal.returns
returns c = nothing_passes
