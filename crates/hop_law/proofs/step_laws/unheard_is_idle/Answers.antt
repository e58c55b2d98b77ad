use Rattle.hop_law.proofs.Hearing.{unheard_is_idle}
use Rattle.hop_law.proofs.step_laws.unheard_is_idle.Goals as goal

pub returns : goal.returns
returns c = unheard_is_idle
