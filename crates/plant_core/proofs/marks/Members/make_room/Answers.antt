use Rattle.std.proofs.Common.{length, IsTrue, sym, subst, ◌∙◌}
use Rattle.plant_core.specs.Inner.Members.{MembersState}
use Rattle.plant_core.proofs.MemberLemmas.{no-room}
use Rattle.plant_core.proofs.marks.Members.make_room.Goals as goal

pub returns-in_err-self-inside-clause-memory : goal.returns-in_err-self-inside-clause-memory
returns-in_err-self-inside-clause-memory c = λ room.
    absurd
    (no-room (length c.self.inside.marks) (length c.self.inside.spare) c.self.inside.size
    (sym c.is_none.ensures ∙ c.if-is_none.true)
    (sym c.is_none-then-is_none.ensures ∙ c.if-is_none-2.true)
    c.self.invariant.0
    (subst (λ (s : MembersState). IsTrue s.has_room) (sym c.self.view_is) room))
