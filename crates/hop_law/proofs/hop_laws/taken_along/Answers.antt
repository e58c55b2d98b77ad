use Rattle.hop_law.proofs.Taken.{taken_along}
use Rattle.hop_law.proofs.hop_laws.taken_along.Goals as goal

pub returns : goal.returns
returns c = taken_along
