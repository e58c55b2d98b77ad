use Rattle.std.proofs.Common.{◌≡◌, drop}
use Rattle.q713_shape.specs.Parts.{slices}
use Rattle.q713_shape.specs.Writing.{have_lengths}
use Rattle.q713_shape.proofs.lengths.are_lengths.Given as goal

abbrev pub invariant-loop-i : goal.invariant-loop-i
invariant-loop-i l = have_lengths l.rules (slices l.values) ≡ have_lengths (drop l.i l.rules) (drop l.i (slices l.values))
