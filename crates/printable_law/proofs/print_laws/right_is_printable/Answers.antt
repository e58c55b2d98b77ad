use Rattle.printable_law.proofs.Printable.{right_is_printable}
use Rattle.printable_law.proofs.print_laws.right_is_printable.Goals as goal

pub returns : goal.returns
returns c = right_is_printable
