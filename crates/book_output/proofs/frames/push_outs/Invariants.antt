use Rattle.std.proofs.Common.{◌≡◌, ◌++◌, drop}
use Rattle.book_output.specs.Sending.{frames_of_outs}
use Rattle.book_output.proofs.frames.push_outs.Given as goal

-- the messages so far, and those of what is left
abbrev pub invariant-loop-output : goal.invariant-loop-output
invariant-loop-output l = l.frames ++ frames_of_outs l.own (drop l.output-index l.outs) ≡ l.initial.frames ++ frames_of_outs l.own l.outs
