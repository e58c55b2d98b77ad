use Rattle.std.proofs.Common.{◌≡◌, ◌++◌, drop}
use Rattle.journal_text.specs.Print.{outs_text}
use Rattle.journal_text.proofs.entries.put_outs.Given as goal

-- the text so far, and that of what is left
abbrev pub invariant-loop-output : goal.invariant-loop-output
invariant-loop-output l = l.text ++ outs_text (drop l.output-index l.outs) ≡ l.initial.text ++ outs_text l.outs
