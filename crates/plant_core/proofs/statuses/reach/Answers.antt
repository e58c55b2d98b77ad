use Rattle.std.proofs.Common.{rules, [], ◌∷◌, ◌++◌, All, inl, ap, sym, subst, ◌∙◌, arith}
use Rattle.std.proofs.lemmas.Grind.{common_steps}
use Rattle.std.proofs.lemmas.List.Elements.{All-push}
use Rattle.plant_core.specs.Inner.Members.{IsWhole, subsystems_from}
use Rattle.plant_core.proofs.MemberLemmas.{empty-row}
use Rattle.plant_core.proofs.statuses.reach.Goals as goal

pub loop-preserved : goal.loop-preserved
loop-preserved c =
    let rows = c.loop.rows.items in
    let none : IsWhole c.none.result = inl c.none.ensures in
    record {
      members = ap (subsystems_from 0) c.push_reserved.ensures.items ∙ ap (λ row. subsystems_from 0 (rows ++ row ∷ [])) c.none.ensures ∙ empty-row 0 rows
          ∙ c.loop.invariant.members;
      whole = subst (All IsWhole) (sym c.push_reserved.ensures.items) (All-push IsWhole rows c.none.result c.loop.invariant.whole none);
      len = first_of (search rules, grind (arith, common_steps));
      few = first_of (search rules, grind (arith, common_steps));
      capacity = first_of (search rules, grind (arith, common_steps));
    }
