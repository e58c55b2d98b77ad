use Rattle.std.proofs.Common.{◌≡◌, ◌+◌, ◌<◌, true, [], get_or, set, length, ap, ap₂, ◌∙◌, arith}
use Rattle.std.proofs.lemmas.List.{get_or_default}
use Rattle.plant_core.specs.Changes.{with_subsystem}
use Rattle.plant_core.specs.Inner.Members.{SubsystemsState, subsystem, subsystems_from}
use Rattle.plant_core.proofs.MemberLemmas.{put-sub}
use Rattle.plant_core.proofs.statuses.BarredSubsystems.mark.Goals as goal

pub returns-clause-members : goal.returns-clause-members
returns-clause-members c =
    let rows = c.open.new.rows.items in
    let point = c.args.point in
    let ssn = c.args.ssn in
    let row = c.index_mut.result.now in
    let e : 0 + point ≡ point = omega arith in
    let at : c.number.result < length rows = omega (arith, c.reach.ensures.reaches, c.open.ensures.len, c.number.ensures.value) in
    let reaches : point < length rows = omega (arith, c.reach.ensures.reaches, c.open.ensures.len) in
    let is : row ≡ get_or rows c.number.result [] = c.index_mut.ensures.value ∙ get_or_default rows c.number.result row [] at in
    let within : ssn < length (get_or rows point []) = omega (arith, c.open.ensures.row, c.number-2.ensures.range) in
    ap (λ r. subsystems_from 0 (set rows c.number.result r)) (c.put.ensures ∙ ap (λ r. set r c.number-2.result true) is)
    ∙ ap₂ (λ p s. subsystems_from 0 (set rows p (set (get_or rows p []) s true))) c.number.ensures.value c.number-2.ensures.value
    ∙ put-sub 0 point ssn rows reaches within
    ∙ ap (λ p. with_subsystem (subsystem p ssn) (subsystems_from 0 rows)) e
    ∙ ap (with_subsystem (subsystem point ssn)) (c.open.ensures.members ∙ c.reach.ensures.members)
    ∙ ap (λ (s : SubsystemsState). with_subsystem (subsystem point ssn) s.members) c.self.view_is
