use Rattle.hop_law.proofs.Along.{left_along}
use Rattle.hop_law.proofs.hop_laws.left_along.Goals as goal

pub returns : goal.returns
returns c = left_along
