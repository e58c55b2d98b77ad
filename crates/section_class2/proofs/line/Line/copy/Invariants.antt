use Rattle.section_class2.proofs.line.Line.copy.Given as goal

abbrev pub ghost-after : goal.ghost-after
ghost-after a = a.seen.now.came.value
