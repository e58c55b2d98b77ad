use Rattle.unit_law.proofs.Short.{shortened_together}
use Rattle.unit_law.proofs.interwork_laws.shortened_ones_come_together.Goals as goal

pub returns : goal.returns
returns c = shortened_together
