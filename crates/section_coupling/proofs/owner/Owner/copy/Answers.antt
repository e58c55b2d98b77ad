use Rattle.section_coupling.proofs.SoundUsers.{same-owner}
use Rattle.section_coupling.proofs.owner.Owner.copy.Goals as goal

pub returns : goal.returns
returns c = same-owner _ _ c.in_ok-copy.ensures c.after.ensures
