use Rattle.std.proofs.Common.{◌≡◌, drop, length, []}
use Rattle.node_head.specs.Entity.{digits_after}
use Rattle.node_head.proofs.entity.digits_of.Given as goal

-- the digits so far, and those of what is left
abbrev pub invariant-loop-octet : goal.invariant-loop-octet
invariant-loop-octet l = record { rest : digits_after l.digits (drop l.octet-index l.text) ≡ digits_after [] l.text; count : length l.digits ≡ l.octet-index }
