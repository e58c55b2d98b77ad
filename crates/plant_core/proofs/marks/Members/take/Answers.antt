use Rattle.std.proofs.Common.{◌≡◌, ◌+◌, ap, ◌∙◌, arith}
use Rattle.plant_core.specs.Changes.{but_for}
use Rattle.plant_core.specs.Inner.Members.{MembersState, marked_from}
use Rattle.plant_core.proofs.MemberLemmas.{take-at}
use Rattle.plant_core.proofs.marks.Members.take.Goals as goal

pub returns-clause-members : goal.returns-clause-members
returns-clause-members c =
    let n = c.args.number in
    let e : 0 + n ≡ n = omega arith in
    ap (marked_from 0) c.take.ensures ∙ take-at 0 n c.self.inside.marks ∙ ap (λ m. but_for m (marked_from 0 c.self.inside.marks)) e
    ∙ ap (λ (s : MembersState). but_for n s.members) c.self.view_is
