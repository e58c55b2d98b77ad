use Rattle.lane_turns.proofs.turn.mark_by.Given as goal

abbrev pub ghost-after : goal.ghost-after
ghost-after g a = g.v
