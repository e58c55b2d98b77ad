use Rattle.std.proofs.Common.{◌≡◌, take, map}
use Rattle.lane_events.specs.Placing.{pending_of}
use Rattle.lane_events.proofs.lane_events.LaneEvents.new.Given as goal

abbrev pub invariant-loop-phase : goal.invariant-loop-phase
invariant-loop-phase l = map (λ links. links.items) l.phases.items ≡ map (map (pending_of l.lane)) (take l.phase-index l.placed)
