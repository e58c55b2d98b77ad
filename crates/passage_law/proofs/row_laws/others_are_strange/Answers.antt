use Rattle.passage_law.proofs.RowFair.{others_are_strange}
use Rattle.passage_law.proofs.row_laws.others_are_strange.Goals as goal

pub returns : goal.returns
returns c = others_are_strange
