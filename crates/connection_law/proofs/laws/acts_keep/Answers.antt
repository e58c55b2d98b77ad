use Rattle.connection_law.proofs.Flow.Counts.{acts_keep}
use Rattle.connection_law.proofs.laws.acts_keep.Goals as goal

pub returns : goal.returns
returns c = acts_keep
