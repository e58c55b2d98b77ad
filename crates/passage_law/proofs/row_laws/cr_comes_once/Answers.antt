use Rattle.passage_law.proofs.Once.{cr_comes_once}
use Rattle.passage_law.proofs.row_laws.cr_comes_once.Goals as goal

pub returns : goal.returns
returns c = cr_comes_once
