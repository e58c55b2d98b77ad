use Rattle.std.proofs.Common.{◌++◌, map, reverse, refl}
use Rattle.node_engine.specs.Barriers.{IsAtOpening}
use Rattle.node_engine.proofs.PhaseLemmas.{places-taken}
use Rattle.node_engine.proofs.phase_lanes.placed_lanes.Goals as goal

pub returns-clause-conns : goal.returns-clause-conns
returns-clause-conns g c =
    let taken = c.in_ok-conns.ensures.places in
    record {
      lanes_are = c.in_ok-conns.ensures.conns;
      places = (places-taken (IsAtOpening c.args.control.now) c.in_ok-publisher.places.items (taken.left ++ reverse (map (λ s. s.place) c.in_ok-conns.units.items)) c.in_ok-conns.conns.items taken.are c.in_ok-publisher.ensures.places).0;
    }

pub returns-clause-units : goal.returns-clause-units
returns-clause-units g c =
    let taken = c.in_ok-conns.ensures.places in
    let before = taken.left ++ reverse (map (λ s. s.place) c.in_ok-conns.units.items) in
    record {
      lanes_are = c.in_ok-conns.ensures.units;
      places = (places-taken (IsAtOpening c.args.control.now) before taken.left c.in_ok-conns.units.items refl
          (places-taken (IsAtOpening c.args.control.now) c.in_ok-publisher.places.items before c.in_ok-conns.conns.items taken.are c.in_ok-publisher.ensures.places).1).0;
    }
