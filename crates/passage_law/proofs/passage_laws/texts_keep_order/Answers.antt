use Rattle.passage_law.proofs.Trails.{texts_keep_order}
use Rattle.passage_law.proofs.passage_laws.texts_keep_order.Goals as goal

pub returns : goal.returns
returns c = texts_keep_order
