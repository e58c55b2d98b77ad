use Rattle.std.proofs.Common.{◌≡◌, take}
use Rattle.lane_events.specs.Placing.{all_placed}
use Rattle.lane_events.proofs.placing.place_all.Given as goal

abbrev pub invariant-loop-phase : goal.invariant-loop-phase
invariant-loop-phase l = l.placed ≡ all_placed l.head (take l.phase-index l.phases)
