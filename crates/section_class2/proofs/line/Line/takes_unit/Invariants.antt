use Rattle.std.specs.Prelude.{[], ◌∷◌, ◌++◌}
use Rattle.section_class2.proofs.line.Line.takes_unit.Given as goal

abbrev pub ghost-after : goal.ghost-after
ghost-after a =
    let came = a.seen.now.line.now.came.value in
    record { got = came.got ++ record { more = a.seen.now.is_followed; body = a.seen.now.body.now } ∷ []; passed = came.passed }
