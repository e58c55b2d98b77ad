use Rattle.std.proofs.Common.{◌≡◌, ◌++◌, drop}
use Rattle.book_output.specs.Inner.Pushing.{lanes_frames}
use Rattle.book_output.proofs.frames.push_lanes.Given as goal

-- the messages so far, and those of what is left
abbrev pub invariant-loop-journal : goal.invariant-loop-journal
invariant-loop-journal l = l.frames ++ lanes_frames l.own (drop l.journal-index l.lanes) ≡ l.initial.frames ++ lanes_frames l.own l.lanes
