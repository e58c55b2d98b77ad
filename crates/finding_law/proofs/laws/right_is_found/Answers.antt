use Rattle.finding_law.proofs.Books.{right_is_found}
use Rattle.finding_law.proofs.laws.right_is_found.Goals as goal

pub returns : goal.returns
returns c = right_is_found
