use Rattle.q713_shape.proofs.Counting.{AreCounted}
use Rattle.q713_shape.proofs.lengths.options_len.Given as goal

abbrev pub invariant-loop-i : goal.invariant-loop-i
invariant-loop-i l = AreCounted l.names l.values l.total l.i
