use Rattle.lane_replays.specs.Inner.Soonest.{FirstFireFrom}
use Rattle.lane_replays.proofs.soonest.first_of.Given as goal

-- none of so many timers fires before
abbrev pub invariant-loop-timer : goal.invariant-loop-timer
invariant-loop-timer l = FirstFireFrom l.timer l.soonest l.one
