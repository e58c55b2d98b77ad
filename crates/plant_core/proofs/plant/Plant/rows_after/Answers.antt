use Rattle.std.proofs.Common.{◌≡◌, length, take, ap, sym, subst, ◌∙◌, arith}
use Rattle.gtt_table.specs.Rows.{HasDistinctKeys}
use Rattle.plant_core.specs.declared.change.Change.{Change}
use Rattle.plant_core.specs.declared.change.Change.TheVariants.{AddRow, DelRow}
use Rattle.plant_core.specs.declared.change.Verdict.TheVariants.{Alters}
use Rattle.plant_core.specs.Plant.{RoutingData}
use Rattle.plant_core.specs.Changes.{verdict_on, changed, changed_all}
use Rattle.plant_core.proofs.GroupLemmas.{one_more, next_alters, row_alters, distinct_after, rows_more, rows_less, rows_same}
use Rattle.plant_core.proofs.plant.Plant.rows_after.Goals as goal
use Rattle.plant_core.proofs.plant.Plant.rows_after.Goals.{in-AddRow, in-DelRow, in_default}

pub overflow_add-count : goal.overflow_add-count
overflow_add-count c =
    let i = c.loop-change.change-index in
    let xs = c.args.changes.now in
    let q = changed_all c.args.self.now.routing (take i xs) in
    let step = next_alters c.args.self.now.routing xs i c.change-item.result c.loop-change-test.true c.loop-change.invariant.alters in
    let alters : verdict_on q (AddRow c.in-AddRow.field-0) ≡ Alters = ap (verdict_on q) (sym c.in-AddRow.is ∙ c.change-item.is) ∙ step.0 in
    let few = (row_alters q c.in-AddRow.field-0 alters).1 in
    omega (arith, few, c.loop-change.invariant.count)

pub overflow_sub-count : goal.overflow_sub-count
overflow_sub-count c =
    let i = c.loop-change.change-index in
    let xs = c.args.changes.now in
    let q = changed_all c.args.self.now.routing (take i xs) in
    let step = next_alters c.args.self.now.routing xs i c.change-item.result c.loop-change-test.true c.loop-change.invariant.alters in
    let alters : verdict_on q (DelRow c.in-DelRow.field-0 c.in-DelRow.field-1) ≡ Alters = ap (verdict_on q) (sym c.in-DelRow.is ∙ c.change-item.is) ∙ step.0 in
    let fewer = rows_less q c.in-DelRow.field-0 c.in-DelRow.field-1 c.loop-change.invariant.distinct alters in
    omega (arith, fewer, c.loop-change.invariant.count)

pub loop-change-preserved : goal.loop-change-preserved
loop-change-preserved c =
    let i = c.loop-change.change-index in
    let xs = c.args.changes.now in
    let x : Change = c.change-item.result in
    let q = changed_all c.args.self.now.routing (take i xs) in
    let step = next_alters c.args.self.now.routing xs i x c.loop-change-test.true c.loop-change.invariant.alters in
    let next = one_more c.args.self.now.routing xs i x c.loop-change-test.true ∙ ap (changed q) (sym c.change-item.is) in
    let alters : verdict_on q x ≡ Alters = ap (verdict_on q) c.change-item.is ∙ step.0 in
    let rows = ap (λ (r : RoutingData). length r.rows) next in
    record {
      count = elim c.match-change.branch [
        | in-AddRow w ↦
            let more = rows_more q w.in-AddRow.field-0 in
            let is = ap (λ y. length (changed q y).rows) w.in-AddRow.is in
            omega (arith, w.count-is, c.loop-change.invariant.count, rows, is, more)
        | in-DelRow w ↦
            let less = rows_less q w.in-DelRow.field-0 w.in-DelRow.field-1 c.loop-change.invariant.distinct (ap (verdict_on q) (sym w.in-DelRow.is) ∙ alters) in
            let is = ap (λ y. length (changed q y).rows) w.in-DelRow.is in
            omega (arith, w.count-is, c.loop-change.invariant.count, rows, is, less)
        | in_default w ↦ w.count-is ∙ c.loop-change.invariant.count ∙ sym (rows ∙ rows_same q x w.in_default.not-AddRow w.in_default.not-DelRow)
      ];
      distinct = subst (λ (r : RoutingData). HasDistinctKeys r.rows) (sym next) (distinct_after q x c.loop-change.invariant.distinct alters);
      alters = step.1;
    }
