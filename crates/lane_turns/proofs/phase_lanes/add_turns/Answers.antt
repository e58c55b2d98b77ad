use Rattle.std.proofs.Common.{◌≡◌, ◌-◌, ◌++◌, [], ◌∷◌, ℕ, List, All, length, refl, ap, ◌∙◌, subst, arith, length-append, append_assoc}
use Rattle.std.proofs.lemmas.List.Elements.{All-tail}
use Rattle.capture_form.specs.Events.{phase_events}
use Rattle.lane_seats.specs.Seats.{SeatState}
use Rattle.lane_turns.specs.Turns.{TurnState, HasRoom}
use Rattle.lane_turns.specs.Rows.{seated_turn, turns_from}
use Rattle.lane_turns.proofs.RowLemmas.{turns_one_more}
use Rattle.lane_turns.proofs.phase_lanes.add_turns.Goals as goal

pub loop-seat-preserved : goal.loop-seat-preserved
loop-seat-preserved g c =
    let inv = c.loop-seat.invariant in
    let seat : SeatState g.row.L.Denot = c.in-Some.seat in
    let f : ℕ → SeatState g.row.L.Denot → TurnState = seated_turn g.L.SeatedKind.name_of g.L.SeatedKind.lane_of c.args.head.now c.args.phase.now in
    let Has : SeatState g.row.L.Denot → Type 0 = λ s. HasRoom (length (phase_events c.args.phase.now)) (g.L.SeatedKind.lane_of s) in
    let olds : List TurnState = c.args.turns.now.items in
    let done : List TurnState = turns_from f 0 c.loop-seat.yielded in
    let step = c.in-Some.ensures.steps.0 in
    let items : c.push_reserved.new.self.items ≡ c.loop-seat.turns.items ++ c.seated_turn-turn.result ∷ [] = c.push_reserved.ensures.items in
    let number : ℕ = c.len.result - c.len-first.result in
    let many : number ≡ length done = omega (arith, c.len.ensures, c.len-first.ensures, c.loop-seat.turns.ok.0, c.args.turns.now.ok.0, ap length inv.turns, length-append olds done) in
    let turn : c.seated_turn-turn.result ≡ f number seat = c.seated_turn-turn.ensures in
    record {
      turns = items ∙ (ap (λ (l : List TurnState). l ++ c.seated_turn-turn.result ∷ []) inv.turns
          ∙ (append_assoc olds done (c.seated_turn-turn.result ∷ []) ∙ ap (λ (l : List TurnState). olds ++ l) (turns_one_more f c.loop-seat.yielded done seat number c.seated_turn-turn.result refl many turn)));
      reserved = omega (arith, ap length items, length-append c.loop-seat.turns.items (c.seated_turn-turn.result ∷ []), ap length step, inv.reserved, c.push_reserved.ensures.capacity);
      capacity = c.push_reserved.ensures.capacity ∙ inv.capacity;
      room = All-tail Has seat c.next.new.self.rest.items (subst (All Has) step inv.room);
    }
