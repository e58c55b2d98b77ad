use Rattle.std.proofs.Common.{◌≡◌, ◌++◌, drop}
use Rattle.std.specs.List.{concat}
use Rattle.q713_shape.specs.Parts.{slices}
use Rattle.q713_shape.specs.Writing.{variables}
use Rattle.q713_shape.proofs.writing.put_variables.Given as goal

abbrev pub invariant-loop-i : goal.invariant-loop-i
invariant-loop-i l = l.initial.out ++ concat (variables l.rules (slices l.values)) ≡ l.out ++ concat (variables (drop l.i l.rules) (drop l.i (slices l.values)))
