use Rattle.passage_law.proofs.Ends.{users_end_trails}
use Rattle.passage_law.proofs.passage_laws.users_end_trails.Goals as goal

pub returns : goal.returns
returns c = users_end_trails
