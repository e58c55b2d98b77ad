use Rattle.std.proofs.Common.{sym, ◌∙◌}
use Rattle.section_coupling.specs.Openings.{seen_incoming}
use Rattle.section_coupling.proofs.Composed.{if-ok}
use Rattle.section_coupling.proofs.Opened.{onward-unfit, onward-few, onward-found}
use Rattle.section_coupling.proofs.opening.through.Goals as goal

pub returns-then-not-fits-clause-value : goal.returns-then-not-fits-clause-value
returns-then-not-fits-clause-value c =
    let w = seen_incoming c.args.terms.now c.args.incoming.now in
    if-ok c.refused.result (λ o e. e c.args.now c.args.terms.now
    ∙ sym (onward-unfit c.args.terms.now w c.args.to.now.point c.args.to.now.rewrite.now c.args.to.now.hop c.args.refs.now (sym (c.fits.ensures c.args.terms.now c.args.incoming.now.point c.args.incoming.now.slr) ∙ c.if-not-fits.true)))
    c.refused.ensures.value

pub returns-then-refs-lt2-clause-value : goal.returns-then-refs-lt2-clause-value
returns-then-refs-lt2-clause-value c =
    let w = seen_incoming c.args.terms.now c.args.incoming.now in
    if-ok c.refused-then-refs-lt2.result (λ o e. e c.args.now c.args.terms.now
    ∙ sym (onward-few c.args.terms.now w c.args.to.now.point c.args.to.now.rewrite.now c.args.to.now.hop c.args.refs.now (sym (c.fits.ensures c.args.terms.now c.args.incoming.now.point c.args.incoming.now.slr) ∙ c.if-not-fits.false) c.if-refs-lt2.true))
    c.refused-then-refs-lt2.ensures.value

pub open_onward-requires-clause-fits : goal.open_onward-requires-clause-fits
open_onward-requires-clause-fits c = sym (c.fits.ensures c.args.terms.now c.args.incoming.now.point c.args.incoming.now.slr) ∙ c.if-not-fits.false

pub returns-clause-value : goal.returns-clause-value
returns-clause-value c =
    let w = seen_incoming c.args.terms.now c.args.incoming.now in
    if-ok c.open_onward.result (λ o e. e
    ∙ sym (onward-found c.args.terms.now w c.args.to.now.point c.args.to.now.rewrite.now c.args.to.now.hop c.args.refs.now _ _ (sym (c.fits.ensures c.args.terms.now c.args.incoming.now.point c.args.incoming.now.slr) ∙ c.if-not-fits.false) c.if-refs-lt2.false c.index-refs-0.is c.index-refs-1.is))
    c.open_onward.ensures.value
