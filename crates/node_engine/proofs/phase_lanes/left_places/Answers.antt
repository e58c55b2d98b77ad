use Rattle.std.proofs.Common.{map, ap, ◌∙◌}
use Rattle.node_engine.proofs.PhaseLemmas.{seen-at-end}
use Rattle.node_engine.proofs.phase_lanes.left_places.Goals as goal

pub returns-clause-conns : goal.returns-clause-conns
returns-clause-conns g c = c.in_ok-conns.ensures.lanes ∙ ap (map (λ s. s.lane)) c.into_parts-publisher.ensures.conns

pub returns-clause-units : goal.returns-clause-units
returns-clause-units g c = c.in_ok-units.ensures.lanes ∙ ap (map (λ s. s.lane)) c.into_parts-publisher.ensures.units

pub returns-clause-conns_seen : goal.returns-clause-conns_seen
returns-clause-conns_seen g c =
    let lanes = c.args.lanes in let parts = c.into_parts-publisher.result in let are = c.into_parts-publisher.ensures in
    seen-at-end parts.0.publisher lanes.publisher c.in_ok-ended.ended parts.1.items lanes.conns are.publisher c.in_ok-ended.ensures are.conns c.in_ok-conns.ensures.seen

pub returns-clause-units_seen : goal.returns-clause-units_seen
returns-clause-units_seen g c =
    let lanes = c.args.lanes in let parts = c.into_parts-publisher.result in let are = c.into_parts-publisher.ensures in
    seen-at-end parts.0.publisher lanes.publisher c.in_ok-ended.ended parts.2.items lanes.units are.publisher c.in_ok-ended.ensures are.units c.in_ok-units.ensures.seen
