use Rattle.std.proofs.Common.{◌≡◌, ◌++◌, [], ◌∷◌, List, All, sym, ap, ◌∙◌, subst, arith}
use Rattle.std.specs.Option.{option_to_list}
use Rattle.std.proofs.lemmas.List.Elements.{All-push}
use Rattle.lane_turns.specs.LaneStates.{Control}
use Rattle.lane_turns.specs.Turns.{TurnState, IsTurn}
use Rattle.lane_turns.specs.Rows.{IsControl}
use Rattle.lane_turns.proofs.TurnLemmas.{control_by}
use Rattle.lane_turns.proofs.RowLemmas.{control_back, placed_front, row_apart}
use Rattle.lane_turns.proofs.phase_lanes.PhaseLanes.from_turns.Goals as goal

pub into_control-requires : goal.into_control-requires
into_control-requires g c =
    let is = c.pop.ensures.items ∙ ap (λ o. c.pop.new.self.items ++ option_to_list o) c.unwrap.ensures in
    subst IsControl (sym c.into_lane-last.ensures.lane)
    (control_by c.unwrap.result c.into_lane-last.ensures.turn (control_back c.args.turns.items c.pop.new.self.items c.unwrap.result c.requires is))

pub apart-requires : goal.apart-requires
apart-requires g c =
    placed_front c.args.turns.items c.pop.new.self.items c.args.turns.len c.requires (omega (arith, c.args.turns.ok.0)) c.pop.ensures.rest

pub returns : goal.returns
returns g c =
    let rest : List TurnState = c.pop.new.self.items in
    let last : TurnState = c.unwrap.result in
    let is : c.args.turns.items ≡ rest ++ last ∷ [] = c.pop.ensures.items ∙ ap (λ o. rest ++ option_to_list o) c.unwrap.ensures in
    let parts = c.into_parts-control in
    let lane : last.lane ≡ Control (record { lane = parts.result.0; publisher = parts.result.1.publisher }) =
    sym c.into_lane-last.ensures.lane ∙ (c.into_control.ensures ∙ (λ i. Control (record { lane = sym parts.ensures.lane i; publisher = sym parts.ensures.publisher i }))) in
    record {
      apart = row_apart c.args.turns.items rest last parts.result.0 (record { publisher = parts.result.1.publisher; conns = c.in_ok-conns.conns.items; units = c.in_ok-conns.units.items }) is lane c.in_ok-conns.ensures.conns c.in_ok-conns.ensures.units;
      turns = subst (All IsTurn) (sym is) (All-push IsTurn rest last c.in_ok-conns.ensures.turns c.into_lane-last.ensures.turn);
    }
