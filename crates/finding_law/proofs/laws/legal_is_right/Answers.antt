use Rattle.finding_law.proofs.Books.{legal_is_right}
use Rattle.finding_law.proofs.laws.legal_is_right.Goals as goal

pub returns : goal.returns
returns c = legal_is_right
