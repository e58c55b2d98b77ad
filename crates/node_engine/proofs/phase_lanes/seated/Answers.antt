use Rattle.std.proofs.Common.{◌≡◌, ◌++◌, List, [], ◌∷◌, map, reverse, sym, ap, subst, ◌∙◌, rules, arith}
use Rattle.std.proofs.lemmas.List.{map-append}
use Rattle.lane_seats.specs.Seats.{SeatState}
use Rattle.node_engine.proofs.PhaseLemmas.{place-taken}
use Rattle.node_engine.proofs.phase_lanes.seated.Goals as goal

pub loop-lane-preserved : goal.loop-lane-preserved
loop-lane-preserved g c =
    let inv = c.loop-lane.invariant in
    let seats : List (SeatState g.row.L.Denot) = c.loop-lane.seats.items in
    let lane = c.in-Some.lane in
    let place = c.unwrap-place.result in
    let one : SeatState g.row.L.Denot = record { lane = lane; place = place } in
    let pushed : c.push_reserved.new.self.items ≡ seats ++ one ∷ [] = search rules in
    let last : c.loop-lane.places.items ≡ c.pop.new.self.items ++ place ∷ [] = search rules in
    record {
      lanes = ap (map (λ s. s.lane)) pushed ∙ (map-append (λ (s : SeatState g.row.L.Denot). s.lane) seats (one ∷ []) ∙ ap (λ l. l ++ lane ∷ []) inv.lanes);
      places = subst (λ items. c.args.places.now.items ≡ c.pop.new.self.items ++ reverse (map (λ s. s.place) items)) (sym pushed)
          (place-taken c.args.places.now.items c.loop-lane.places.items c.pop.new.self.items place lane seats inv.places last);
      enough = search (rules, arith);
      room = search (rules, arith);
    }
