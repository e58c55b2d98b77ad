use Rattle.lane_turns.proofs.turn.LaneTurn.new.Given as goal

abbrev pub ghost-mark_by : goal.ghost-mark_by
ghost-mark_by g a = a.lane.now
