use Rattle.lane_turns.proofs.turn.mark_of.Given as goal

abbrev pub ghost-after : goal.ghost-after
ghost-after a = a.seen.now
