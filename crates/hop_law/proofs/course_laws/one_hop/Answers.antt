use Rattle.hop_law.proofs.Hopping.{one_hop}
use Rattle.hop_law.proofs.course_laws.one_hop.Goals as goal

pub returns : goal.returns
returns c = one_hop
