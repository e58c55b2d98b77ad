use Rattle.std.proofs.Common.{◌&&◌, not, Bool, List, ℕ, ap, ap₂, sym, ◌∙◌}
use Rattle.plant_core.specs.Plant.{is_among}
use Rattle.plant_core.specs.Changes.{alters_if, verdict_on, changed_all}
use Rattle.plant_core.specs.Inner.Subjects.{subject_of, stands}
use Rattle.plant_core.proofs.GroupLemmas.{users_all}
use Rattle.plant_core.proofs.plant.Plant.verdict_after.Goals as goal

pub returns-in-LocalUp : goal.returns-in-LocalUp
unfolding verdict_on
returns-in-LocalUp c =
    let q = changed_all c.args.self.now.routing c.args.changes.now in
    let verdict = λ (users : List ℕ) (out : Bool). alters_if (is_among c.in-LocalUp.ssn users && out) in
    c.service_verdict.ensures
    ∙ ap₂ verdict (sym (users_all c.args.self.now.routing c.args.changes.now))
    (c.stands_after-there.ensures ∙ ap (stands q) (c.of.ensures ∙ ap subject_of c.in-LocalUp.is))
    ∙ ap (verdict_on q) (sym c.in-LocalUp.is)

pub returns-in-LocalDown : goal.returns-in-LocalDown
unfolding verdict_on
returns-in-LocalDown c =
    let q = changed_all c.args.self.now.routing c.args.changes.now in
    let verdict = λ (users : List ℕ) (out : Bool). alters_if (is_among c.in-LocalDown.ssn users && not out) in
    c.service_verdict-in-LocalDown.ensures
    ∙ ap₂ verdict (sym (users_all c.args.self.now.routing c.args.changes.now))
    (c.stands_after-there.ensures ∙ ap (stands q) (c.of.ensures ∙ ap subject_of c.in-LocalDown.is))
    ∙ ap (verdict_on q) (sym c.in-LocalDown.is)
