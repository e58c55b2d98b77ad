use Rattle.book_output.proofs.LineLemmas.{print_is_in_lines}
use Rattle.book_output.proofs.law.print_is_in_lines.Goals as goal

pub returns : goal.returns
returns c = print_is_in_lines
