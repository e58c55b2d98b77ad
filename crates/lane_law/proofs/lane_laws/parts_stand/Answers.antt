use Rattle.lane_law.proofs.Parts.{parts_stand}
use Rattle.lane_law.proofs.lane_laws.parts_stand.Goals as goal

pub returns : goal.returns
returns c = parts_stand
