use Rattle.hop_law.proofs.Hearing.{stays_sound}
use Rattle.hop_law.proofs.step_laws.stays_sound.Goals as goal

pub returns : goal.returns
returns c = stays_sound
