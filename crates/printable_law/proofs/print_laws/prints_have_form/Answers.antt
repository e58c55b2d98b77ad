use Rattle.printable_law.proofs.Printable.{prints_have_form}
use Rattle.printable_law.proofs.print_laws.prints_have_form.Goals as goal

pub returns : goal.returns
returns c = prints_have_form
