use Rattle.node_engine.proofs.PhaseLemmas.{opening-places}
use Rattle.node_engine.proofs.phase_lanes.opened.Goals as goal

pub returns-clause-places : goal.returns-clause-places
returns-clause-places g c = opening-places c.editions.result c.args.control.now c.in_ok-plant.plant c.in_ok-plant.ensures c.editions.ensures.opened c.editions.ensures.places
