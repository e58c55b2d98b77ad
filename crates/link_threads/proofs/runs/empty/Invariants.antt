use Rattle.std.proofs.Common.{length}
use Rattle.link_threads.specs.Links.{Link}
use Rattle.link_threads.specs.Gates.{HasFedBut}
use Rattle.link_threads.proofs.runs.empty.Given as goal

-- what still waits is the next that the lane is to take
abbrev pub invariant-loop-unit : goal.invariant-loop-unit
invariant-loop-unit g l = record {
  some : (left : Link g.row.L-Event.Denot) × HasFedBut g.L.LaneState.plan l.number l.units.items left l.door l.pass;
  fed : (left : Link g.row.L-Event.Denot) → HasFedBut g.L.LaneState.plan l.number l.fn.units.items left l.door l.fn.pass → HasFedBut g.L.LaneState.plan l.number l.units.items left l.door l.pass;
}

abbrev pub decreases-loop-unit : goal.decreases-loop-unit
decreases-loop-unit g l = length l.units.items
