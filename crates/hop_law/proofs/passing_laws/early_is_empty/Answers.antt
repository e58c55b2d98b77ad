use Rattle.hop_law.proofs.Early.{early_law}
use Rattle.hop_law.proofs.passing_laws.early_is_empty.Goals as goal

pub returns : goal.returns
returns c = early_law
