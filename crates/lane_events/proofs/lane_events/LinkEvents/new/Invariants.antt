use Rattle.std.proofs.Common.{◌≡◌, take, map}
use Rattle.lane_events.specs.Placing.{kept}
use Rattle.lane_events.proofs.lane_events.LinkEvents.new.Given as goal

abbrev pub invariant-loop-place : goal.invariant-loop-place
invariant-loop-place l = map (λ e. e.now) l.events.items ≡ kept l.lane (take l.place-index l.placed)
