use Rattle.std.proofs.Common.{ap, sym, ◌∙◌}
use Rattle.plant_core.specs.Plant.{RoutingData}
use Rattle.plant_core.specs.Changes.{group_verdict, first_verdict}
use Rattle.plant_core.proofs.GroupLemmas.{all_alter}
use Rattle.plant_core.proofs.plant.Plant.absorb.Goals as goal

pub apply_all-requires-clause-alters : goal.apply_all-requires-clause-alters
unfolding group_verdict
apply_all-requires-clause-alters c =
    let changes = c.args.group.now.changes in
    ap (first_verdict c.make_room.new.self.routing) c.as_slice.ensures
    ∙ ap (λ (p : RoutingData). first_verdict p changes) (c.in_ok-make_room.ensures.routing)
    ∙ all_alter c.args.self.now.routing changes (sym c.verdict.ensures ∙ c.in-Alters.is)
