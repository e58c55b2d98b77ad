use Rattle.std.proofs.Common.{◌≡◌, ◌++◌, ◌≤◌, ◌-◌, map, drop, length}
use Rattle.reassembly.specs.declared.processes.TheConstants.{MOST_REASSEMBLIES}
use Rattle.reassembly.specs.Reassembly.{ended_by_tick}
use Rattle.relay_base.specs.declared.causes.TheConstants.{RETURN_SEGMENTATION_FAILURE}
use Rattle.data_lane.specs.Legal.{failure}
use Rattle.data_lane.proofs.gathering.tick.Given as goal

-- with the returns that are still due, the outputs are those of the tick
abbrev pub invariant-loop-first : goal.invariant-loop-first
invariant-loop-first l = record {
  outs : l.outs ++ map (failure l.own RETURN_SEGMENTATION_FAILURE) (drop l.at (ended_by_tick l.bench.processes)) ≡ l.initial.outs ++ map (failure l.own RETURN_SEGMENTATION_FAILURE) (ended_by_tick l.bench.processes);
  within : l.at ≤ length (ended_by_tick l.bench.processes);
  few : length (ended_by_tick l.bench.processes) ≤ MOST_REASSEMBLIES;
}

abbrev pub decreases-loop-first : goal.decreases-loop-first
decreases-loop-first l = length (ended_by_tick l.bench.processes) - l.at
