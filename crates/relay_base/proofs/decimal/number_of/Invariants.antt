use Rattle.std.proofs.Common.{◌≡◌, ◌<◌, ◌^◌, take}
use Rattle.relay_base.specs.Decimal.{digits_value}
use Rattle.relay_base.proofs.decimal.number_of.Given as goal

-- the digits so far, each of which makes the number ten times as large at most
abbrev pub invariant-loop-digit : goal.invariant-loop-digit
invariant-loop-digit l = record { value : l.number ≡ digits_value (take l.digit-index l.word); small : l.number < 10 ^ l.digit-index }
