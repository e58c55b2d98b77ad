use Rattle.passage_law.proofs.Fairness.{runs_are_fair}
use Rattle.passage_law.proofs.Passing.{run_hop}
use Rattle.passage_law.proofs.passage_laws.run_hop.Goals as goal

pub returns : goal.returns
returns c = run_hop runs_are_fair
