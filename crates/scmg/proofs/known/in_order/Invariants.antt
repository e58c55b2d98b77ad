use Rattle.std.proofs.Common.{◌≡◌, filter}
use Rattle.std.specs.List.{range_with_len}
use Rattle.plant_core.specs.Plant.{is_among}
use Rattle.scmg.proofs.known.in_order.Given as goal

-- the users up to this number
abbrev pub invariant-loop-number : goal.invariant-loop-number
invariant-loop-number l = l.list.items ≡ filter (λ ssn. is_among ssn l.users) (range_with_len 0 l.number)
