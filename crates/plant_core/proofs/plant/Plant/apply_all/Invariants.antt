use Rattle.std.proofs.Common.{◌≡◌, drop}
use Rattle.plant_core.specs.Changes.{changed_all, first_verdict, HasRoomFor}
use Rattle.plant_core.specs.declared.change.Verdict.TheVariants.{Alters}
use Rattle.plant_core.proofs.plant.Plant.apply_all.Given as goal

-- the others alter what these left, and there is room for them
abbrev pub invariant-loop-change : goal.invariant-loop-change
invariant-loop-change l = record {
  routing : changed_all l.self.routing (drop l.change-index l.changes) ≡ changed_all l.initial.self.routing l.changes;
  edition : l.self.edition ≡ l.initial.self.edition;
  alters : first_verdict l.self.routing (drop l.change-index l.changes) ≡ Alters;
  room : HasRoomFor (drop l.change-index l.changes) l.self;
}
