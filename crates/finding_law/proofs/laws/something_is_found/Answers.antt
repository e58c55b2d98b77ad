use Rattle.finding_law.proofs.Books.{something_is_found}
use Rattle.finding_law.proofs.laws.something_is_found.Goals as goal

pub returns : goal.returns
returns c = something_is_found
