use Rattle.lane_events.proofs.editions.Editions.new.Given as goal

abbrev pub ghost-after : goal.ghost-after
ghost-after a = a.seen.now
