use Rattle.left_right.specs.Sides.{view}
use Rattle.gtt_editions.specs.Rule.{IsOpened, standing}
use Rattle.gtt_editions.specs.Standing.{LooksFrom}
use Rattle.gtt_editions.proofs.place.catch_up.Given as goal

abbrev pub invariant-loop : goal.invariant-loop
invariant-loop g l =
    (goal.iterator-loop g).can_next l.iterator' × (goal.iterator-loop g).is_finite l.iterator' × IsOpened (view l.reader.place) × LooksFrom (standing (view l.fn.reader.place)) (standing (view l.reader.place))
