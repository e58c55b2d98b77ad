use Rattle.std.proofs.Common.{sym, ◌∙◌}
use Rattle.section_coupling.specs.Openings.{seen_incoming}
use Rattle.section_coupling.proofs.Composed.{if-ok}
use Rattle.section_coupling.proofs.Opened.{local-none}
use Rattle.section_coupling.proofs.opening.by_cr.Goals as goal

pub returns-in-None-clause-value : goal.returns-in-None-clause-value
returns-in-None-clause-value c =
    if-ok c.refused.result (λ o e. e c.args.now c.args.terms.now
    ∙ sym (local-none c.args.terms.now (seen_incoming c.args.terms.now c.args.incoming.now) c.args.answer.now _ c.args.refs.now c.in-Local.is c.in-None.ensures.value))
    c.refused.ensures.value
