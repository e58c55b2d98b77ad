use Rattle.unit_law.proofs.Together.{come_together}
use Rattle.unit_law.proofs.interwork_laws.segments_come_together.Goals as goal

pub returns : goal.returns
returns c = come_together
