use Rattle.q713_shape.proofs.Taking.{IsTakenTo}
use Rattle.q713_shape.proofs.reading.take_option.Given as goal

abbrev pub invariant-loop-i : goal.invariant-loop-i
invariant-loop-i l = IsTakenTo l.names l.name l.value l.initial.values l.values l.i
