use Rattle.std.proofs.Common.{◌≡◌, ◌++◌, drop}
use Rattle.book_output.specs.Inner.Pushing.{journal_frames}
use Rattle.book_output.proofs.frames.push_journal.Given as goal

-- the messages so far, and those of what is left
abbrev pub invariant-loop-entry : goal.invariant-loop-entry
invariant-loop-entry l = l.frames ++ journal_frames l.own (drop l.entry-index l.journal) ≡ l.initial.frames ++ journal_frames l.own l.journal
