use Rattle.connection_law.proofs.Reference.Following.{following_stays}
use Rattle.connection_law.proofs.laws.following_stays.Goals as goal

pub returns : goal.returns
returns c = following_stays
