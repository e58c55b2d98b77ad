use Rattle.book_law.proofs.Made.{generated_sequential}
use Rattle.book_law.proofs.book_laws.generated_is_sequential.Goals as goal

pub returns : goal.returns
returns c = generated_sequential
