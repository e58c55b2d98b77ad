use Rattle.std.proofs.Common.{◌≡◌, ◌++◌, take}
use Rattle.sccp_address.specs.Digits.{digit_octets}
use Rattle.sccp_address.proofs.digits.put_digits.Given as goal

abbrev pub invariant-loop-place : goal.invariant-loop-place
invariant-loop-place l = l.octets ≡ l.initial.octets ++ take l.place (digit_octets l.all)
