use Rattle.std.proofs.Common.{length}
use Rattle.q713_shape.proofs.Scanning.{IsScannedTo}
use Rattle.q713_shape.proofs.reading.options.Given as goal

abbrev pub invariant-loop-rest : goal.invariant-loop-rest
invariant-loop-rest l = IsScannedTo l.names l.part l.values l.rest

abbrev pub decreases-loop-rest : goal.decreases-loop-rest
decreases-loop-rest l = length l.rest
