use Rattle.std.proofs.Common.{◌≡◌, drop}
use Rattle.q713_shape.specs.Parts.{optional_slices}
use Rattle.q713_shape.specs.Writing.{have_option_lengths}
use Rattle.q713_shape.proofs.lengths.are_option_lengths.Given as goal

abbrev pub invariant-loop-i : goal.invariant-loop-i
invariant-loop-i l = have_option_lengths l.names (optional_slices l.values) ≡ have_option_lengths (drop l.i l.names) (drop l.i (optional_slices l.values))
