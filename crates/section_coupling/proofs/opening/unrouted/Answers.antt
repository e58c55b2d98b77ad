use Rattle.std.proofs.Common.{◌∷◌, ◌++◌, ap, ◌∙◌}
use Rattle.scmg_messages.specs.Messages.{status_outputs}
use Rattle.section_model.specs.Opening.{not_opened, cref_to}
use Rattle.section_coupling.specs.Openings.{seen_incoming}
use Rattle.section_coupling.proofs.opening.unrouted.Goals as goal

pub returns-clause-value : goal.returns-clause-value
returns-clause-value c = λ now.
    let status = status_outputs c.args.terms.now.own c.args.incoming.now.point c.args.incoming.now.wanted.sls c.args.local in
    c.none.ensures.value now
    ∙ ap not_opened (c.in_ok-put_status.ensures.ok ∙ ap (λ outs. outs ++ status) (c.in_ok-outs.ensures c.args.terms.now) ∙ ap (λ cause. cref_to (seen_incoming c.args.terms.now c.args.incoming.now) cause ∷ status) c.refusal_cause.ensures)
