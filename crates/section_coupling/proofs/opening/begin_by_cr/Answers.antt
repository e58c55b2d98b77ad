use Rattle.std.proofs.Common.{sym, refl, ◌∙◌}
use Rattle.section_coupling.specs.Openings.{seen_incoming}
use Rattle.section_coupling.proofs.Composed.{if-ok}
use Rattle.section_coupling.proofs.Opened.{unasked}
use Rattle.section_coupling.proofs.opening.begin_by_cr.Goals as goal

pub returns-in-None-clause-value : goal.returns-in-None-clause-value
returns-in-None-clause-value c =
    if-ok c.refused.result (λ o e. e c.args.now c.args.terms.now
    ∙ sym (unasked c.args.terms.now (seen_incoming c.args.terms.now c.args.incoming.now) _ c.args.refs.now (rw c.in-None.is refl)))
    c.refused.ensures.value
