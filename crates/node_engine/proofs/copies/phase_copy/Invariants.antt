use Rattle.std.proofs.Common.{◌≡◌, take}
use Rattle.node_engine.proofs.copies.phase_copy.Given as goal

-- the copies so far
abbrev pub invariant-loop-events : goal.invariant-loop-events
invariant-loop-events l = l.copy.items ≡ take l.events-index l.events-items
