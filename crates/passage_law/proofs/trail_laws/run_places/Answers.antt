use Rattle.passage_law.proofs.Standing.{run_places}
use Rattle.passage_law.proofs.trail_laws.run_places.Goals as goal

pub returns : goal.returns
returns c = run_places
