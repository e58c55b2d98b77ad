use Rattle.std.proofs.Common.{ap, sym, ◌∙◌}
use Rattle.section_coupling.specs.Inner.Sizes.{are_fitting}
use Rattle.section_coupling.specs.Openings.{seen_wanted}
use Rattle.section_coupling.proofs.Fitting.{fits-allowed, fits-barred}
use Rattle.section_coupling.proofs.sizes.fits.Goals as goal

pub returns-then-has_lengths : goal.returns-then-has_lengths
returns-then-has_lengths c = λ terms point slr.
    c.are_fitting.ensures ∙ ap (are_fitting c.onward_length-called.result) (c.options_size.ensures.value terms point slr)
    ∙ fits-allowed (seen_wanted terms point slr c.args.wanted.now) c.args.rewrite.now c.args.hop c.onward_length-called.result (sym c.has_lengths.ensures ∙ c.if-has_lengths.true) c.onward_length-called.ensures

pub returns-else-has_lengths : goal.returns-else-has_lengths
returns-else-has_lengths c = λ terms point slr.
    c.if-has_lengths.false ∙ fits-barred (seen_wanted terms point slr c.args.wanted.now) c.args.rewrite.now c.args.hop (sym c.has_lengths.ensures ∙ c.if-has_lengths.false)
