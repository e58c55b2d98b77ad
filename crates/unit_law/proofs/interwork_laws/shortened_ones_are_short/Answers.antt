use Rattle.unit_law.proofs.Short.{shortened_short}
use Rattle.unit_law.proofs.interwork_laws.shortened_ones_are_short.Goals as goal

pub returns : goal.returns
returns c = shortened_short
