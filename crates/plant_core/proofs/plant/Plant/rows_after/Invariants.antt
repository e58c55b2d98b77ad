use Rattle.std.proofs.Common.{◌≡◌, length, take, drop}
use Rattle.gtt_table.specs.Rows.{HasDistinctKeys}
use Rattle.plant_core.specs.Changes.{changed_all, first_verdict}
use Rattle.plant_core.specs.declared.change.Verdict.TheVariants.{Alters}
use Rattle.plant_core.proofs.plant.Plant.rows_after.Given as goal

-- by the changes so far; the others alter what these left
abbrev pub invariant-loop-change : goal.invariant-loop-change
invariant-loop-change l = record {
  count : l.count ≡ length (changed_all l.self.routing (take l.change-index l.changes)).rows;
  distinct : HasDistinctKeys (changed_all l.self.routing (take l.change-index l.changes)).rows;
  alters : first_verdict (changed_all l.self.routing (take l.change-index l.changes)) (drop l.change-index l.changes) ≡ Alters;
}
