use Rattle.passage_law.proofs.RowBeginning.{nothing_before}
use Rattle.passage_law.proofs.row_laws.nothing_before.Goals as goal

pub returns : goal.returns
returns c = nothing_before
