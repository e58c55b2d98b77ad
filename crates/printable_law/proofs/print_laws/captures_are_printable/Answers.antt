use Rattle.printable_law.proofs.Printable.{captures_are_printable}
use Rattle.printable_law.proofs.print_laws.captures_are_printable.Goals as goal

pub returns : goal.returns
returns c = captures_are_printable
