use Rattle.std.proofs.Common.{ℕ, subst}
use Rattle.lane_gate.specs.Plan.{Raises}
use Rattle.lane_gate.proofs.TurnKeeps.{finishes_after, abandons_after}
use Rattle.lane_gate.proofs.gate.Gate.hand_over_in_turn.Goals as goal

pub leave-requires-clause-kept : goal.leave-requires-clause-kept
leave-requires-clause-kept g c = let plan = g.L.LaneState.plan in let taken = g.L.LaneState.taken in let out = c.in-Ok.ensures.ok in
    finishes_after plan taken c.args.self.now.table.shared.key _ _ _ c.args.number c.in-Ok.lane c.take_owned.new.self c.requires.idle out.0 out.1 c.take_owned.ensures.plan
    (subst (λ (j : ℕ). Raises (taken c.in-Ok.lane) (taken c.take_owned.new.self) j) c.requires.link c.in-Ok-take_owned.ensures.ok)

pub leave-requires-in-Err-take_owned-clause-kept : goal.leave-requires-in-Err-take_owned-clause-kept
leave-requires-in-Err-take_owned-clause-kept g c = let out = c.in-Ok.ensures.ok in
    abandons_after g.L.LaneState.plan g.L.LaneState.taken c.args.self.now.table.shared.key _ _ _ c.args.number c.in-Ok.lane c.take_owned.new.self c.requires.idle out.0 out.1 c.take_owned.ensures.plan
    c.in-Err-take_owned.ensures.err
