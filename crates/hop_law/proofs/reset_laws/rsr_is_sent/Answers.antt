use Rattle.hop_law.proofs.Coming.{rsr_is_sent}
use Rattle.hop_law.proofs.reset_laws.rsr_is_sent.Goals as goal

pub returns : goal.returns
returns c = rsr_is_sent
