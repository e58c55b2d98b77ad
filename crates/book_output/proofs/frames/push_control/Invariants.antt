use Rattle.std.proofs.Common.{◌≡◌, ◌++◌, drop}
use Rattle.book_output.specs.Inner.Pushing.{control_frames}
use Rattle.book_output.proofs.frames.push_control.Given as goal

-- the messages so far, and those of what is left
abbrev pub invariant-loop-entry : goal.invariant-loop-entry
invariant-loop-entry l = l.frames ++ control_frames l.own (drop l.entry-index l.journal) ≡ l.initial.frames ++ control_frames l.own l.journal
