use Rattle.lane_law.proofs.Worlds.{two_worlds}
use Rattle.lane_law.proofs.lane_laws.two_worlds.Goals as goal

pub returns : goal.returns
returns c = two_worlds
