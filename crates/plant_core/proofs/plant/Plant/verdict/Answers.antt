use Rattle.std.proofs.Common.{take, ap, sym, ◌∙◌}
use Rattle.plant_core.specs.declared.change.Change.{Change}
use Rattle.plant_core.specs.Changes.{group_verdict, verdict_on, verdict_on_all, changed_all, is_alters}
use Rattle.plant_core.proofs.GroupLemmas.{decided_at, alters_on, other_verdict}
use Rattle.plant_core.proofs.plant.Plant.verdict.Goals as goal

pub returns-in_default : goal.returns-in_default
unfolding group_verdict
returns-in_default c =
    let p = c.args.self.now.routing in
    let xs = c.as_slice-changes.result.now in
    let i = c.loop-at.at in
    let x : Change = c.index-changes-at.result in
    let is = c.verdict_after.ensures ∙ ap (verdict_on (changed_all p (take i xs))) c.index-changes-at.is in
    let no = ap is_alters (sym is) ∙ other_verdict c.verdict_after.result c.in_default.not-Alters in
    is ∙ sym (decided_at p xs i x c.loop-at-test.true c.loop-at.invariant no) ∙ ap (verdict_on_all p) c.as_slice-changes.ensures

pub loop-at-preserved : goal.loop-at-preserved
loop-at-preserved c =
    let p = c.args.self.now.routing in
    let xs = c.as_slice-changes.result.now in
    let i = c.loop-at.at in
    let x : Change = c.index-changes-at.result in
    let is = c.verdict_after.ensures ∙ ap (verdict_on (changed_all p (take i xs))) c.index-changes-at.is in
    alters_on p xs i x c.loop-at-test.true c.loop-at.invariant (sym is ∙ c.in-Alters.is)
