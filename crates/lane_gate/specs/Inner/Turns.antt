-- What a turn tells whose event goes to the lane.
use Rattle.std.specs.Prelude.{◌≡◌, ◌+◌, Option, Some, None}
use Rattle.lane_gate.specs.Inner.Views.{done_in}
use Rattle.lane_gate.specs.declared.table.View.{View}
use Rattle.lane_gate.specs.declared.pass.Waiting.{Waiting}

-- the event is delivered, or comes back after a try
abbrev pub HasTried : {E : Type 0} → View → View → E → Option (Waiting E) → Type 0
HasTried old new event None = done_in new ≡ done_in old + 1
HasTried old new event (Some waiting) = (waiting.event ≡ event) × (done_in new ≡ done_in old) × (new.tries ≡ old.tries + 1)

-- the turn was free, and nothing was delivered in it
abbrev pub HasHadIts : View → View → Type 0
HasHadIts old new = (done_in new ≡ done_in old) × (new.tries ≡ old.tries + 1) × (new.saw ≡ 0)
