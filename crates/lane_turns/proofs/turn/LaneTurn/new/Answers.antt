use Rattle.std.proofs.Common.{List, sym, subst}
use Rattle.capture_form.specs.Events.{Stamped}
use Rattle.lane_turns.specs.LaneStates.{PhaseLane}
use Rattle.lane_turns.specs.Turns.{IsTurn, turn_of}
use Rattle.lane_turns.proofs.TurnLemmas.{turn_new}
use Rattle.lane_turns.proofs.turn.LaneTurn.new.Goals as goal

pub invariant_of-result : goal.invariant_of-result
invariant_of-result g c =
    let marked : IsTurn (turn_of c.args.head.now c.args.phase.now c.args.name c.mark_by-first.result.value c.args.lane) =
    subst (λ (l : PhaseLane). IsTurn (turn_of c.args.head.now c.args.phase.now c.args.name l c.args.lane)) (sym c.mark_by-first.ensures)
    (turn_new c.args.head.now c.args.phase.now c.args.name c.args.lane c.requires.named c.requires.room) in
    subst (λ (lists : List Stamped). IsTurn (turn_of c.args.head.now lists c.args.name c.mark_by-first.result.value c.args.lane)) (sym c.mark_of.ensures) marked
