use Rattle.std.proofs.Common.{sym, subst}
use Rattle.lane_gate.specs.Plan.{IsNext}
use Rattle.lane_turns.specs.Turns.{TurnState, plan_of, taken_of, turn_of}
use Rattle.lane_turns.proofs.TurnLemmas.{turn_can_take, turn_done}
use Rattle.lane_turns.proofs.turn.LaneTurnLaneState.take_owned.Goals as goal

pub step-requires : goal.step-requires
step-requires g c =
    let i = c.self.inside in
    let t : TurnState = turn_of i.head.now i.phase.value i.name i.first.value i.lane in
    let next : IsNext (plan_of t) (taken_of t) c.args.stamp c.args.event = subst (λ (s : TurnState). IsNext (plan_of s) (taken_of s) c.args.stamp c.args.event) (sym c.self.view_is) c.requires in
    turn_can_take t c.args.stamp c.args.event c.self.invariant next

pub invariant_of-self : goal.invariant_of-self
invariant_of-self g c =
    let i = c.self.inside in
    let t : TurnState = turn_of i.head.now i.phase.value i.name i.first.value i.lane in
    let next : IsNext (plan_of t) (taken_of t) c.args.stamp c.args.event = subst (λ (s : TurnState). IsNext (plan_of s) (taken_of s) c.args.stamp c.args.event) (sym c.self.view_is) c.requires in
    turn_done t c.args.stamp c.args.event c.step.new.self c.self.invariant c.step.result next c.step.ensures.ok c.step.ensures.err
