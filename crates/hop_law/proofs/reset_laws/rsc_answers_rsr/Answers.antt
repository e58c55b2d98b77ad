use Rattle.hop_law.proofs.ResetAnswering.{rsc_answers_rsr}
use Rattle.hop_law.proofs.reset_laws.rsc_answers_rsr.Goals as goal

pub returns : goal.returns
returns c = rsc_answers_rsr
