use Rattle.std.proofs.Common.{◌≡◌, ◌+◌, false, [], filter, get_or, set, ap, ap₂, ◌∙◌, arith}
use Rattle.plant_core.specs.Inner.Members.{SubsystemsState, subsystems_from}
use Rattle.plant_core.proofs.MemberLemmas.{is_other, take-sub}
use Rattle.plant_core.proofs.statuses.BarredSubsystems.take.Goals as goal

pub returns-clause-members : goal.returns-clause-members
returns-clause-members c =
    let rows = c.self.inside.rows.items in
    let point = c.args.point in
    let ssn = c.args.ssn in
    let e : 0 + point ≡ point = omega arith in
    ap (subsystems_from 0) c.take_from.ensures.items
    ∙ ap₂ (λ p s. subsystems_from 0 (set rows p (set (get_or rows p []) s false))) c.number.ensures.value c.number-2.ensures.value
    ∙ take-sub 0 point ssn rows
    ∙ ap (λ p. filter (is_other p ssn) (subsystems_from 0 rows)) e
    ∙ ap (λ (s : SubsystemsState). filter (is_other point ssn) s.members) c.self.view_is
