use Rattle.std.proofs.Common.{ap, ◌∙◌}
use Rattle.section_model.specs.Opening.{not_opened}
use Rattle.section_coupling.proofs.opening.Opening.refused.Goals as goal

pub returns-clause-value : goal.returns-clause-value
returns-clause-value c = λ now terms. c.none.ensures.value now ∙ ap not_opened (c.in_ok-cref_outs.ensures terms)
