use Rattle.passage_law.proofs.Giving.{texts_come}
use Rattle.passage_law.proofs.trail_laws.texts_come.Goals as goal

pub returns : goal.returns
returns c = texts_come
