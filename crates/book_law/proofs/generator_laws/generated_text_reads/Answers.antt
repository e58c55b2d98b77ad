use Rattle.book_law.proofs.Whole.{text_law}
use Rattle.book_law.proofs.generator_laws.generated_text_reads.Goals as goal

pub returns : goal.returns
returns c = text_law
