use Rattle.hop_law.proofs.Answering.{is_answered}
use Rattle.hop_law.proofs.hop_laws.is_answered.Goals as goal

pub returns : goal.returns
returns c = is_answered
