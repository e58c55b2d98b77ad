use Rattle.local_refs.specs.Inner.Swept.{AreTaken}
use Rattle.local_refs.proofs.state.first_free.Given as goal

-- no slot so far is free
abbrev pub invariant-loop-place : goal.invariant-loop-place
invariant-loop-place l = AreTaken l.place l.states
