use Rattle.std.proofs.Common.{sym, ◌∙◌}
use Rattle.section_coupling.specs.Openings.{seen_wanted}
use Rattle.section_coupling.proofs.Opened.{slots-two, slots-none}
use Rattle.section_coupling.proofs.sizes.needed_by_cr.Goals as goal

pub returns-then-fits : goal.returns-then-fits
returns-then-fits c = λ terms point slr.
    slots-two (seen_wanted terms point slr c.args.wanted.now) c.args.answer.now _ _ _ c.in-Forward.is (sym (c.fits.ensures terms point slr) ∙ c.if-fits.true)

pub returns-else-fits : goal.returns-else-fits
returns-else-fits c = λ terms point slr.
    slots-none (seen_wanted terms point slr c.args.wanted.now) c.args.answer.now _ _ _ c.in-Forward.is (sym (c.fits.ensures terms point slr) ∙ c.if-fits.false)
