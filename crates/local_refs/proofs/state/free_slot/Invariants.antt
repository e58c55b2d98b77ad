use Rattle.std.proofs.Common.{◌≡◌, ◌+◌, drop, slice_get}
use Rattle.local_refs.specs.Slots.{free_from}
use Rattle.local_refs.proofs.state.free_slot.Given as goal

-- the free slot that is looked for is yet to come
abbrev pub invariant-loop-place : goal.invariant-loop-place
invariant-loop-place l =
    slice_get (free_from 1 l.states) l.at ≡ slice_get (free_from (l.place + 1) (drop l.place l.states)) l.before
