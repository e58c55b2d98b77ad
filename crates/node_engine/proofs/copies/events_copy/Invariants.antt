use Rattle.std.proofs.Common.{◌≡◌, take}
use Rattle.node_engine.proofs.copies.events_copy.Given as goal

-- the copies so far
abbrev pub invariant-loop-stamp : goal.invariant-loop-stamp
invariant-loop-stamp l = l.copy.items ≡ take l.stamp-index l.events
