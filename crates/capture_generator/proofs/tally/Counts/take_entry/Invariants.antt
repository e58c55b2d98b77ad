use Rattle.std.proofs.Common.{◌≡◌, drop, fold}
use Rattle.capture_generator.specs.Inner.Tally.{with_output}
use Rattle.capture_generator.proofs.tally.Counts.take_entry.Given as goal

-- the counts so far, and the outputs that are left
abbrev pub invariant-loop-output : goal.invariant-loop-output
invariant-loop-output l = fold with_output l.self (drop l.output-index l.outs) ≡ fold with_output l.initial.self l.outs
