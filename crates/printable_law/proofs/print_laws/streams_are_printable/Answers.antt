use Rattle.printable_law.proofs.Printable.{streams_are_printable}
use Rattle.printable_law.proofs.print_laws.streams_are_printable.Goals as goal

pub returns : goal.returns
returns c = streams_are_printable
