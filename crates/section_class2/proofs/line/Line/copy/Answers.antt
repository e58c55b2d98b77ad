use Rattle.section_class2.proofs.Within.{same-line}
use Rattle.section_class2.proofs.line.Line.copy.Goals as goal

pub returns : goal.returns
returns c = same-line _ _ c.in_ok-copied_release.ensures c.after.ensures
