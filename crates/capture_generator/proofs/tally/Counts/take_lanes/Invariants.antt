use Rattle.std.proofs.Common.{◌≡◌, drop}
use Rattle.capture_generator.specs.Inner.Tally.{with_lanes}
use Rattle.capture_generator.proofs.tally.Counts.take_lanes.Given as goal

-- the counts so far, and the journals that are left
abbrev pub invariant-loop-journal : goal.invariant-loop-journal
invariant-loop-journal l = with_lanes l.self (drop l.journal-index l.lanes) ≡ with_lanes l.initial.self l.lanes
