use Rattle.std.proofs.Common.{ap, ◌∙◌}
use Rattle.scmg.specs.Control.{Control, start_of_control, routing_after}
use Rattle.scmg.specs.Lane.{ControlState, changes_of}
use Rattle.scmg.proofs.JournalLemmas.{routing-after}
use Rattle.scmg.proofs.lane.ControlLane.plant.Goals as goal

pub returns-clause-routing : goal.returns-clause-routing
returns-clause-routing c =
    c.plant.ensures.routing ∙ ap (λ (x : Control). x.routing) c.self.invariant.control
    ∙ routing-after c.self.inside.head (start_of_control c.self.inside.start.value.routing) c.self.inside.journal
    ∙ ap (λ (l : ControlState). routing_after l.start (changes_of l)) c.self.view_is
