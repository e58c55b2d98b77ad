use Rattle.passage_law.proofs.TrailJoining.{units_are_told}
use Rattle.passage_law.proofs.trail_laws.units_are_told.Goals as goal

pub returns : goal.returns
returns c = units_are_told
