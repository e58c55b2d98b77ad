use Rattle.hop_law.proofs.Clearing.{no_clearing}
use Rattle.hop_law.proofs.passing_laws.no_clearing.Goals as goal

pub returns : goal.returns
returns c = no_clearing
