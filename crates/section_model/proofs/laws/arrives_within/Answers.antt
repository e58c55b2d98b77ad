use Rattle.section_model.proofs.ArriveWithin.{arrives_within}
use Rattle.section_model.proofs.laws.arrives_within.Goals as goal

pub returns : goal.returns
returns c = arrives_within
