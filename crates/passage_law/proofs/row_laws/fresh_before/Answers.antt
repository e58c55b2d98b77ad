use Rattle.passage_law.proofs.Freshness.{freshness_before}
use Rattle.passage_law.proofs.row_laws.fresh_before.Goals as goal

pub returns : goal.returns
returns c = freshness_before
