use Rattle.finding_law.proofs.Books.{found_is_right}
use Rattle.finding_law.proofs.laws.found_is_right.Goals as goal

pub returns : goal.returns
returns c = found_is_right
