use Rattle.std.proofs.Common.{◌≡◌, take}
use Rattle.sccp_address.specs.Digits.{halves}
use Rattle.sccp_address.proofs.digits.read_digits.Given as goal

abbrev pub invariant-loop-place : goal.invariant-loop-place
invariant-loop-place l = l.digits ≡ take l.place (halves l.octets)
