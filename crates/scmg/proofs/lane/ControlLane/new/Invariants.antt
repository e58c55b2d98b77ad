use Rattle.scmg.proofs.lane.ControlLane.new.Given as goal

abbrev pub ghost-after : goal.ghost-after
ghost-after a = a.seen.now
