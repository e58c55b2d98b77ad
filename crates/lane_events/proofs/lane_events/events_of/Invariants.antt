use Rattle.std.proofs.Common.{◌≡◌, take, map}
use Rattle.lane_events.specs.Placing.{pending_of}
use Rattle.lane_events.proofs.lane_events.events_of.Given as goal

abbrev pub invariant-loop-link : goal.invariant-loop-link
invariant-loop-link l = l.links.items ≡ map (pending_of l.lane) (take l.link-index l.placed)
