use Rattle.q713_shape.proofs.Variables.{IsReadTo}
use Rattle.q713_shape.proofs.reading.variables.Given as goal

abbrev pub invariant-loop-i : goal.invariant-loop-i
invariant-loop-i l = IsReadTo l.wide l.bytes l.place l.width l.rules l.values l.i
