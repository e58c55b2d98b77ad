use Rattle.std.proofs.Common.{ap, sym, ◌∙◌}
use Rattle.plant_core.specs.Inner.Members.{marked_from}
use Rattle.plant_core.proofs.MemberLemmas.{none-there, spare-none}
use Rattle.plant_core.proofs.marks.fill.Goals as goal

pub returns-then-is_none-clause-members : goal.returns-then-is_none-clause-members
returns-then-is_none-clause-members c =
    ap (marked_from 0) c.replace.ensures.value ∙ spare-none c.args.size c.args.spare.now c.requires.spare
    ∙ ap (marked_from 0) (sym (none-there c.args.marks.now (sym c.is_none.ensures ∙ c.if-is_none.true)))
