use Rattle.std.proofs.Common.{◌≡◌, ◌++◌, take, drop}
use Rattle.local_refs.specs.Inner.Swept.{swept_all}
use Rattle.local_refs.proofs.state.sweep.Given as goal

-- the slots so far are swept
abbrev pub invariant-loop-state : goal.invariant-loop-state
invariant-loop-state l = l.states ≡ swept_all l.ticks (take l.state-index l.initial.states) ++ drop l.state-index l.initial.states
