use Rattle.std.proofs.Common.{◌≡◌, take}
use Rattle.plant_core.specs.Changes.{changed_all}
use Rattle.plant_core.specs.Inner.Subjects.{stands}
use Rattle.plant_core.proofs.plant.Plant.stands_after.Given as goal

-- by the changes so far
abbrev pub invariant-loop-change : goal.invariant-loop-change
invariant-loop-change l = l.there ≡ stands (changed_all l.self.routing (take l.change-index l.changes)) l.subject
