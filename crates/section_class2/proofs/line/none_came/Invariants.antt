use Rattle.std.specs.Prelude.{[]}
use Rattle.section_class2.proofs.line.none_came.Given as goal

abbrev pub ghost-after : goal.ghost-after
ghost-after a = record { got = []; passed = 0 }
