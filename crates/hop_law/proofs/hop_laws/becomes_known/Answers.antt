use Rattle.hop_law.proofs.Confirming.{becomes_known}
use Rattle.hop_law.proofs.hop_laws.becomes_known.Goals as goal

pub returns : goal.returns
returns c = becomes_known
