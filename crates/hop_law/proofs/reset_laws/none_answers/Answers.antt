use Rattle.hop_law.proofs.ResetAnswering.{none_answers}
use Rattle.hop_law.proofs.reset_laws.none_answers.Goals as goal

pub returns : goal.returns
returns c = none_answers
