use Rattle.std.proofs.Common.{sym, subst}
use Rattle.lane_gate.specs.Plan.{IsNext}
use Rattle.lane_turns.specs.Turns.{plan_of, taken_of}
use Rattle.lane_turns.proofs.turn.LaneTurnLaneState.take_turn.Goals as goal

pub take_owned-requires : goal.take_owned-requires
take_owned-requires g c = subst (IsNext (plan_of c.args.self.now) (taken_of c.args.self.now) c.args.stamp) (sym c.in_ok-copy.ensures) c.requires
