use Rattle.std.proofs.Common.{◌≡◌, ◌≤◌, min, drop}
use Rattle.local_refs.specs.declared.state.TheConstants.{LONGEST}
use Rattle.local_refs.specs.Inner.Swept.{soonest_in}
use Rattle.local_refs.proofs.state.soonest_in.Given as goal

-- what the states to come make sooner is yet to be heard of
abbrev pub invariant-loop-state : goal.invariant-loop-state
invariant-loop-state l = (min (soonest_in (drop l.state-index l.states)) l.soonest ≡ soonest_in l.states) × (l.soonest ≤ LONGEST)
