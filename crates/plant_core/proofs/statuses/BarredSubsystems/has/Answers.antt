use Rattle.std.proofs.Common.{◌≡◌, ◌+◌, false, List, Bool, [], get_or, ap, ap₂, ◌∙◌, arith}
use Rattle.std.specs.List.{list_any}
use Rattle.plant_core.specs.Plant.{is_same_subsystem}
use Rattle.plant_core.specs.Inner.Members.{SubsystemsState, subsystems_from}
use Rattle.plant_core.proofs.MemberLemmas.{has-sub}
use Rattle.plant_core.proofs.statuses.BarredSubsystems.has.Goals as goal

pub returns : goal.returns
returns c =
    let rows = c.self.inside.rows.items in
    let point = c.args.point in
    let ssn = c.args.ssn in
    let e : 0 + point ≡ point = omega arith in
    c.is_marked.ensures
    ∙ ap (λ (list : List (List Bool)). get_or (get_or list c.number.result []) c.number-2.result false) c.deref.ensures.value
    ∙ ap₂ (λ p s. get_or (get_or rows p []) s false) c.number.ensures.value c.number-2.ensures.value
    ∙ has-sub 0 point ssn rows
    ∙ ap (λ p. list_any (is_same_subsystem p ssn) (subsystems_from 0 rows)) e
    ∙ ap (λ (s : SubsystemsState). list_any (is_same_subsystem point ssn) s.members) c.self.view_is
