use Rattle.std.proofs.Common.{◌≡◌, ◌++◌, drop}
use Rattle.q713_shape.specs.Parts.{optional_slices}
use Rattle.q713_shape.specs.Writing.{all_given}
use Rattle.q713_shape.proofs.writing.put_options.Given as goal

abbrev pub invariant-loop-i : goal.invariant-loop-i
invariant-loop-i l = l.initial.out ++ all_given l.names (optional_slices l.values) ≡ l.out ++ all_given (drop l.i l.names) (drop l.i (optional_slices l.values))
