use Rattle.hop_law.proofs.Apart.{keeps_apart}
use Rattle.hop_law.proofs.step_laws.keeps_apart.Goals as goal

pub returns : goal.returns
returns c = keeps_apart
