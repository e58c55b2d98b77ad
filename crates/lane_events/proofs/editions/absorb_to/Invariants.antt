use Rattle.std.proofs.Common.{◌≡◌}
use Rattle.plant_core.specs.Plant.{RoutingData}
use Rattle.lane_events.specs.Editions.{HasAbsorbed}
use Rattle.lane_events.proofs.editions.absorb_to.Given as goal

-- the plant absorbed the groups so far
abbrev pub invariant-loop-at : goal.invariant-loop-at
invariant-loop-at l = record {
  edition : l.plant.edition ≡ l.at;
  routing : (start : RoutingData) → HasAbsorbed start l.groups l.fn.plant → HasAbsorbed start l.groups l.plant;
}
