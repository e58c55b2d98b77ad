use Rattle.std.proofs.Common.{◌≡◌, map}
use Rattle.std.specs.List.{range_with_len}
use Rattle.section_model.specs.UserEnd.{handed, unit_at}
use Rattle.section_user.proofs.units.units_of.Given as goal

abbrev pub invariant-loop-place : goal.invariant-loop-place
invariant-loop-place l = l.hands ≡ map handed (map (unit_at l.body) (range_with_len 0 l.place))
