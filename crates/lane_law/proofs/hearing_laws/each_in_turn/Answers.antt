use Rattle.lane_law.proofs.Turns.{each_in_turn}
use Rattle.lane_law.proofs.hearing_laws.each_in_turn.Goals as goal

pub returns : goal.returns
returns c = each_in_turn
