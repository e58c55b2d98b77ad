use Rattle.std.proofs.Common.{◌≡◌, ◌+◌, ◌<◌, length, ap, ◌∙◌, arith}
use Rattle.plant_core.specs.Changes.{with_number}
use Rattle.plant_core.specs.Inner.Members.{MembersState, marked_from}
use Rattle.plant_core.proofs.MemberLemmas.{put-at}
use Rattle.plant_core.proofs.marks.Members.mark.Goals as goal

pub returns-clause-members : goal.returns-clause-members
returns-clause-members c =
    let n = c.args.number in
    let marks = c.fill.new.marks in
    let e : 0 + n ≡ n = omega arith in
    let size = ap (λ (s : MembersState). s.size) c.self.view_is in
    let within : n < length marks = omega (arith, c.fill.ensures.len, c.requires.below, size) in
    ap (marked_from 0) c.put.ensures ∙ put-at 0 n marks within ∙ ap (λ m. with_number m (marked_from 0 marks)) e
    ∙ ap (with_number n) c.fill.ensures.members
    ∙ ap (λ (s : MembersState). with_number n s.members) c.self.view_is
