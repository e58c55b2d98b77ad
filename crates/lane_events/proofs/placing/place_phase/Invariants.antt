use Rattle.std.proofs.Common.{◌≡◌, take, map}
use Rattle.lane_events.specs.Placing.{with_place}
use Rattle.lane_events.proofs.placing.place_phase.Given as goal

abbrev pub invariant-loop-link : goal.invariant-loop-link
invariant-loop-link l = l.placed ≡ map (map (with_place l.head)) (take l.link-index l.phase)
