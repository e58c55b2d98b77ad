use Rattle.std.proofs.Common.{length}
use Rattle.block_threads.specs.Items.{Beside}
use Rattle.link_threads.specs.Links.{IsStamped}
use Rattle.link_threads.specs.Gates.{HasFed}
use Rattle.link_threads.proofs.feed.serve.Given as goal

abbrev pub invariant-loop-arrival : goal.invariant-loop-arrival
invariant-loop-arrival g l = record {
  stamped : IsStamped l.number (g.A.Arrivals.left l.link);
  fed : Beside (HasFed g.L.LaneState.plan l.number (g.A.Arrivals.left l.link)) l.doors l.passes;
}

abbrev pub decreases-loop-arrival : goal.decreases-loop-arrival
decreases-loop-arrival g l = length (g.A.Arrivals.left l.link)
