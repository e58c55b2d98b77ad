use Rattle.passage_law.proofs.Ends.{run_ends}
use Rattle.passage_law.proofs.passage_laws.run_ends.Goals as goal

pub returns : goal.returns
returns c = run_ends
