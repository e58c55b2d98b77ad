use Rattle.std.proofs.Common.{sym, ap, ◌∙◌}
use Rattle.section_model.specs.Opening.{question_of}
use Rattle.section_coupling.specs.Openings.{seen_wish}
use Rattle.section_coupling.proofs.wish.ReadWish.ask.Goals as goal

pub returns-in-ByCr : goal.returns-in-ByCr
returns-in-ByCr c = λ terms.
    c.ask_of_incoming.ensures terms c.in-ByCr.incoming.point c.in-ByCr.incoming.slr ∙ ap question_of (ap (seen_wish terms) (sym c.in-ByCr.is) ∙ c.wish.ensures.value terms)
