use Rattle.hop_law.proofs.Closing.{no_opening}
use Rattle.hop_law.proofs.passing_laws.no_opening.Goals as goal

pub returns : goal.returns
returns c = no_opening
