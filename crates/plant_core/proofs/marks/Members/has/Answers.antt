use Rattle.std.proofs.Common.{◌≡◌, ◌+◌, ap, ◌∙◌, arith}
use Rattle.plant_core.specs.Plant.{is_among}
use Rattle.plant_core.specs.Inner.Members.{MembersState, marked_from}
use Rattle.plant_core.proofs.MemberLemmas.{has-at}
use Rattle.plant_core.proofs.marks.Members.has.Goals as goal

pub returns : goal.returns
returns c =
    let n = c.args.number in
    let e : 0 + n ≡ n = omega arith in
    c.has.ensures ∙ has-at 0 n c.self.inside.marks ∙ ap (λ m. is_among m (marked_from 0 c.self.inside.marks)) e
    ∙ ap (λ (s : MembersState). is_among n s.members) c.self.view_is
