use Rattle.q713_shape.proofs.Counting.{IsCounted}
use Rattle.q713_shape.proofs.lengths.variables_len.Given as goal

abbrev pub invariant-loop-i : goal.invariant-loop-i
invariant-loop-i l = IsCounted l.rules l.values l.total l.i
