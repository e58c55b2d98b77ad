use Rattle.std.proofs.Common.{◌++◌, List, map, reverse, ap, ◌∙◌, arith}
use Rattle.gtt_editions.specs.Standing.{Standing}
use Rattle.node_engine.proofs.PhaseLemmas.{places-left}
use Rattle.node_engine.proofs.phase_lanes.both_seated.Goals as goal

-- as many places are left as there are second lanes, or more
pub seated-requires-2 : goal.seated-requires-2
seated-requires-2 g c =
    omega (arith, c.requires, places-left c.args.places.items c.seated.new.places.items c.in_ok-conns.conns.items c.args.conns.items c.in_ok-conns.ensures.places c.in_ok-conns.ensures.lanes)

pub returns-clause-places : goal.returns-clause-places
returns-clause-places g c = record {
  left = c.seated-2.new.places.items;
  are = c.in_ok-conns.ensures.places ∙ ap (λ (l : List Standing). l ++ reverse (map (λ s. s.place) c.in_ok-conns.conns.items)) c.in_ok-units.ensures.places;
}
