use Rattle.hop_law.proofs.Setup.{asked_answers}
use Rattle.hop_law.proofs.step_laws.asked_answers.Goals as goal

pub returns : goal.returns
returns c = asked_answers
