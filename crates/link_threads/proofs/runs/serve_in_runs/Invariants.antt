use Rattle.std.proofs.Common.{length, map}
use Rattle.link_threads.specs.Links.{IsStamped}
use Rattle.link_threads.specs.Gates.{HaveFedBut}
use Rattle.link_threads.proofs.runs.serve_in_runs.Given as goal

abbrev pub invariant-loop-arrival : goal.invariant-loop-arrival
invariant-loop-arrival g l = record {
  stamped : IsStamped l.number (g.A.Arrivals.left l.link);
  fed : HaveFedBut g.L.LaneState.plan l.number (g.A.Arrivals.left l.link) l.doors (map (λ u. u.items) l.waiting) l.passes;
}

abbrev pub decreases-loop-arrival : goal.decreases-loop-arrival
decreases-loop-arrival g l = length (g.A.Arrivals.left l.link)
