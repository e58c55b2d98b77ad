use Rattle.hop_law.proofs.Setup.{sends_no_confirm}
use Rattle.hop_law.proofs.step_laws.sends_no_confirm.Goals as goal

pub returns : goal.returns
returns c = sends_no_confirm
