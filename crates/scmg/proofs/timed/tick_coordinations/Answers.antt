use Rattle.std.proofs.Common.{rules, map, ap, ◌∙◌}
use Rattle.std.proofs.lemmas.Fn.{filter_same}
use Rattle.scmg.specs.Control.{lowered}
use Rattle.scmg.proofs.timed.tick_coordinations.Goals as goal

pub returns : goal.returns
returns c = c.lower.ensures ∙ ap (map lowered) (filter_same _ _ _ (λ x b f' k. search rules) _ _ c.retain.ensures.filtered)
