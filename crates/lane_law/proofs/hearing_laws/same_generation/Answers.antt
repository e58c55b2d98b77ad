use Rattle.lane_law.proofs.Turns.{same_generation}
use Rattle.lane_law.proofs.hearing_laws.same_generation.Goals as goal

pub returns : goal.returns
returns c = same_generation
