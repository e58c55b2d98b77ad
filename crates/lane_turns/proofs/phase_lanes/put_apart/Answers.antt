use Rattle.std.proofs.Common.{◌≡◌, ◌++◌, List, length, All, sym, ap, ◌∙◌, subst, arith, length-append, append_assoc}
use Rattle.std.specs.List.{flat_map}
use Rattle.std.proofs.lemmas.List.{map-id}
use Rattle.std.proofs.lemmas.List.Elements.{All-tail, All-push}
use Rattle.std.proofs.lemmas.Iterator.Adapters.{YieldsList-from_vec}
use Rattle.std.proofs.lemmas.Iterator.Consumers.{YieldsList-end}
use Rattle.conn_journal.specs.Lanes.{ConnLaneState}
use Rattle.data_lane.specs.Legal.{LaneState}
use Rattle.lane_seats.specs.Seats.{SeatState}
use Rattle.lane_turns.specs.Turns.{TurnState, IsTurn}
use Rattle.lane_turns.specs.Rows.{HasPlace, IsSeated, conn_of, data_of, lanes_of}
use Rattle.lane_turns.proofs.TurnLemmas.{seated_by}
use Rattle.lane_turns.proofs.RowLemmas.{conns_push, units_push, conn_few, data_few}
use Rattle.lane_turns.proofs.phase_lanes.put_apart.Goals as goal

pub by_kind-conn-requires : goal.by_kind-conn-requires
by_kind-conn-requires g c =
    let placed = subst (All HasPlace) c.in-Some.ensures.steps.0 c.loop-turn.invariant.placed in
    subst IsSeated (sym c.into_lane.ensures.lane) (seated_by c.in-Some.turn c.into_lane.ensures.turn (placed 0 c.in-Some.turn (omega arith)))

pub loop-turn-preserved : goal.loop-turn-preserved
loop-turn-preserved g c =
    let inv = c.loop-turn.invariant in
    let turn : TurnState = c.in-Some.turn in
    let step = c.in-Some.ensures.steps.0 in
    let had_conns : List (SeatState ConnLaneState) = c.args.conns.now.items in
    let had_units : List (SeatState LaneState) = c.args.units.now.items in
    let conns : c.put.new.seats.items ≡ c.loop-turn.conns.items ++ conn_of turn.lane = c.put.ensures.seats ∙ ap (λ l. c.loop-turn.conns.items ++ l) (c.by_kind-conn.ensures.conn ∙ ap conn_of c.into_lane.ensures.lane) in
    let units : c.put-in-loop-turn.new.seats.items ≡ c.loop-turn.units.items ++ data_of turn.lane = c.put-in-loop-turn.ensures.seats ∙ ap (λ l. c.loop-turn.units.items ++ l) (c.by_kind-conn.ensures.unit ∙ ap data_of c.into_lane.ensures.lane) in
    record {
      conns = conns ∙ (ap (λ (l : List (SeatState ConnLaneState)). l ++ conn_of turn.lane) inv.conns
          ∙ (append_assoc had_conns (flat_map conn_of (lanes_of c.loop-turn.yielded)) (conn_of turn.lane) ∙ ap (λ (l : List (SeatState ConnLaneState)). had_conns ++ l) (sym (conns_push c.loop-turn.yielded turn))));
      units = units ∙ (ap (λ (l : List (SeatState LaneState)). l ++ data_of turn.lane) inv.units
          ∙ (append_assoc had_units (flat_map data_of (lanes_of c.loop-turn.yielded)) (data_of turn.lane) ∙ ap (λ (l : List (SeatState LaneState)). had_units ++ l) (sym (units_push c.loop-turn.yielded turn))));
      turns = All-push IsTurn c.loop-turn.yielded turn inv.turns c.into_lane.ensures.turn;
      placed = All-tail HasPlace turn c.next.new.self.rest.items (subst (All HasPlace) step inv.placed);
      conns_room = omega (arith, ap length conns, length-append c.loop-turn.conns.items (conn_of turn.lane), conn_few turn.lane, ap length step, inv.conns_room, c.put.ensures.capacity);
      units_room = omega (arith, ap length units, length-append c.loop-turn.units.items (data_of turn.lane), data_few turn.lane, ap length step, inv.units_room, c.put-in-loop-turn.ensures.capacity);
    }

pub returns-clause-turns : goal.returns-clause-turns
returns-clause-turns g c =
    let gives = c.into_iter-turn-iterator.ensures.into_iter_gives in
    let seen = YieldsList-end (YieldsList-from_vec c.args.turns.items gives.0 (gives.1 ∙ c.args.turns.ok.0)) c.loop-turn.yielded c.loop-turn.turn-iterator c.loop-turn.yielded_by c.next.result c.next.new.self c.in-None.is c.next.ensures.steps in
    subst (All IsTurn) (sym (map-id c.loop-turn.yielded) ∙ seen.0) c.loop-turn.invariant.turns
