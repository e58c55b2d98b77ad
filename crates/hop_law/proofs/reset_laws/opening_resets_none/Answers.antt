use Rattle.hop_law.proofs.Opening.{opening_resets_none}
use Rattle.hop_law.proofs.reset_laws.opening_resets_none.Goals as goal

pub returns : goal.returns
returns c = opening_resets_none
