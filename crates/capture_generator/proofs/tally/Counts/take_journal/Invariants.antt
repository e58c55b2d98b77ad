use Rattle.std.proofs.Common.{◌≡◌, drop}
use Rattle.capture_generator.specs.Inner.Tally.{with_journal}
use Rattle.capture_generator.proofs.tally.Counts.take_journal.Given as goal

-- the counts so far, and the entries that are left
abbrev pub invariant-loop-entry : goal.invariant-loop-entry
invariant-loop-entry l = with_journal l.self (drop l.entry-index l.journal) ≡ with_journal l.initial.self l.journal
