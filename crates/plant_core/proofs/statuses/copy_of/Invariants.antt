use Rattle.std.proofs.Common.{◌≡◌, take}
use Rattle.plant_core.proofs.statuses.copy_of.Given as goal

abbrev pub invariant-loop-row : goal.invariant-loop-row
invariant-loop-row l = l.copy.items ≡ take l.row-index l.rows
