use Rattle.passage_law.proofs.Fairness.{runs_are_fair}
use Rattle.passage_law.proofs.Passing.{run_rsr}
use Rattle.passage_law.proofs.passage_laws.run_rsr.Goals as goal

pub returns : goal.returns
returns c = run_rsr runs_are_fair
