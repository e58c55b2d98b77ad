use Rattle.std.proofs.Common.{◌≡◌, take}
use Rattle.node_engine.proofs.copies.phases_copy.Given as goal

-- the copies so far
abbrev pub invariant-loop-phase : goal.invariant-loop-phase
invariant-loop-phase l = l.copy.items ≡ take l.phase-index l.phase-items
