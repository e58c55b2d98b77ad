use Rattle.std.proofs.Common.{◌≡◌, take}
use Rattle.plant_core.specs.Changes.{first_verdict}
use Rattle.plant_core.specs.declared.change.Verdict.TheVariants.{Alters}
use Rattle.plant_core.proofs.plant.Plant.verdict.Given as goal

-- the changes so far alter, each what those before it left
abbrev pub invariant-loop-at : goal.invariant-loop-at
invariant-loop-at l = first_verdict l.self.routing (take l.at l.changes) ≡ Alters
