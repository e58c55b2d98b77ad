use Rattle.std.proofs.Common.{◌≡◌, min, take}
use Rattle.relay_base.specs.Decimal.{digits_value}
use Rattle.lane_events.specs.declared.editions.TheConstants.{MANY_EDITIONS}
use Rattle.lane_events.proofs.editions.value_of.Given as goal

-- the digits so far
abbrev pub invariant-loop-digit : goal.invariant-loop-digit
invariant-loop-digit l = l.value ≡ min MANY_EDITIONS (digits_value (take l.digit-index l.digits))
