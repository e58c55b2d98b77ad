use Rattle.finding_law.proofs.Books.{found_once}
use Rattle.finding_law.proofs.laws.found_once.Goals as goal

pub returns : goal.returns
returns c = found_once
