use Rattle.std.proofs.Common.{◌≡◌, ◌≤◌, ◌+◌, length, drop}
use Rattle.local_refs.specs.Slots.{free_from}
use Rattle.local_refs.proofs.slots.Slots.free.Given as goal

-- the free slots to come are yet to be counted
abbrev pub invariant-loop-state : goal.invariant-loop-state
invariant-loop-state l =
    (l.free + length (free_from (l.state-index + 1) (drop l.state-index l.state-items)) ≡ length (free_from 1 l.state-items)) × (l.free ≤ l.state-index)
