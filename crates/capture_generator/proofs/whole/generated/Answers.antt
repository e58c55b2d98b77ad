use Rattle.std.proofs.Common.{◌%◌, ap₂, rules}
use Rattle.capture_form.specs.declared.capture.Capture.{Capture}
use Rattle.capture_generator.specs.Generator.{Phases}
use Rattle.capture_generator.proofs.CaptureLemmas.{head-within, phases-stamped, phases-linked, phases-few}
use Rattle.capture_generator.proofs.whole.generated.Goals as goal

pub returns-clause-value : goal.returns-clause-value
returns-clause-value c = ap₂ (λ head (phases : Phases). let made : Capture = record { head = head; phases = phases } in made) c.in_ok-head.ensures c.in_ok-phases.ensures

pub returns-clause-stamped : goal.returns-clause-stamped
returns-clause-stamped c = search (rules, phases-stamped (c.args.number % 2147483648) c.args.lines)

pub returns-clause-linked : goal.returns-clause-linked
returns-clause-linked c = search (rules, phases-linked (c.args.number % 2147483648) c.args.lines)

pub returns-clause-range : goal.returns-clause-range
returns-clause-range c = search (rules, head-within)

pub returns-clause-few : goal.returns-clause-few
returns-clause-few c = search (rules, phases-few (c.args.number % 2147483648) c.args.lines c.requires)
