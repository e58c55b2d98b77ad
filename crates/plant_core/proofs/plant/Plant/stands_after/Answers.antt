use Rattle.std.proofs.Common.{◌≡◌, Bool, cond, get_or, take, ap, sym, ◌∙◌}
use Rattle.plant_core.specs.declared.change.Change.{Change}
use Rattle.plant_core.specs.Changes.{changed, changed_all}
use Rattle.plant_core.specs.Plant.{RoutingData}
use Rattle.plant_core.specs.Inner.Subjects.{puts, stands}
use Rattle.plant_core.proofs.GroupLemmas.{one_more, stands-changed}
use Rattle.plant_core.proofs.plant.Plant.stands_after.Goals as goal
use Rattle.plant_core.proofs.plant.Plant.stands_after.Goals.{then-is_of, else-is_of}

pub loop-change-preserved : goal.loop-change-preserved
loop-change-preserved c =
    let i = c.loop-change.change-index in
    let xs = c.args.changes.now in
    let change : Change = c.change-item.result in
    let x = c.args.subject in
    let q = changed_all c.args.self.now.routing (take i xs) in
    let next = one_more c.args.self.now.routing xs i change c.loop-change-test.true in
    let here : get_or xs i change ≡ change = sym c.change-item.is in
    let after = ap (λ (p : RoutingData). stands p x) (next ∙ ap (changed q) here) ∙ stands-changed q change x in
    let by : Bool → Bool = λ is. cond is (puts change) (stands q x) in
    elim c.if-is_of.branch [
      | then-is_of w ↦ w.there-is ∙ w.puts-there.ensures ∙ sym (after ∙ ap by (sym c.is_of.ensures ∙ w.if-is_of.true))
      | else-is_of w ↦ w.there-is ∙ c.loop-change.invariant ∙ sym (after ∙ ap by (sym c.is_of.ensures ∙ w.if-is_of.false))
    ]
