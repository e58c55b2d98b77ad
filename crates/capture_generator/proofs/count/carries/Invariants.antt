use Rattle.std.proofs.Common.{◌≡◌}
use Rattle.capture_generator.specs.Inner.Digits.{one_greater}
use Rattle.capture_generator.proofs.DigitLemmas.{carrying}
use Rattle.capture_generator.proofs.count.carries.Given as goal

-- the digits so far are those of the number one greater, if one is carried to those that are left
abbrev pub invariant-loop-digit : goal.invariant-loop-digit
invariant-loop-digit l = carrying l.digits l.digit-index ≡ one_greater l.initial.digits
