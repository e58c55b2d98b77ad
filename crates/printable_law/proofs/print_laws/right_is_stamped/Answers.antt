use Rattle.printable_law.proofs.Stamping.{right_is_stamped}
use Rattle.printable_law.proofs.print_laws.right_is_stamped.Goals as goal

pub returns : goal.returns
returns c = right_is_stamped
