use Rattle.std.proofs.Common.{sym, ap, ◌∙◌}
use Rattle.std.specs.Prelude.{Some}
use Rattle.section_model.specs.Opening.{slots_needed}
use Rattle.section_coupling.specs.Openings.{seen_outgoing, seen_wish}
use Rattle.section_coupling.proofs.sizes.needs.Goals as goal

pub returns-in-ByUser : goal.returns-in-ByUser
returns-in-ByUser c = λ terms.
    let o = c.in-ByUser.field-0 in
    c.needed_by_user.ensures (seen_outgoing terms o) o.ssn o.tag
    ∙ ap (λ wish. slots_needed wish (Some c.args.answer.now)) (ap (seen_wish terms) (sym c.in-ByUser.is) ∙ c.wish.ensures.value terms)
