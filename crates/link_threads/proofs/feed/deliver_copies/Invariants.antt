use Rattle.link_threads.specs.Gates.{IsFedBelow}
use Rattle.link_threads.proofs.feed.deliver_copies.Given as goal

-- the event went through the passes so far
abbrev pub invariant-loop-lane : goal.invariant-loop-lane
invariant-loop-lane g l = IsFedBelow g.L.LaneState.plan l.arrival (g.A.Arrivals.left l.link) l.lane l.doors l.passes
