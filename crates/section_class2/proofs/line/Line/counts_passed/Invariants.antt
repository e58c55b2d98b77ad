use Rattle.section_model.specs.Line.{counts_passed}
use Rattle.section_class2.specs.Lines.{line_of}
use Rattle.section_class2.proofs.line.Line.counts_passed.Given as goal

abbrev pub ghost-after : goal.ghost-after
ghost-after a =
    let after = (counts_passed a.seen.now.hand.now (line_of a.seen.now.wire.now a.seen.now.line.now)).0 in
    record { got = after.got; passed = after.passed }
