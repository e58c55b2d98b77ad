use Rattle.std.proofs.Common.{◌≡◌, take, map}
use Rattle.lane_events.specs.Placing.{with_place}
use Rattle.lane_events.proofs.placing.place_link.Given as goal

abbrev pub invariant-loop-event : goal.invariant-loop-event
invariant-loop-event l = map (λ e. (e.0, e.1.now)) l.placed.items ≡ map (with_place l.head) (take l.event-index l.events)
