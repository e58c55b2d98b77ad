use Rattle.std.proofs.Common.{◌≡◌, ◌++◌, drop}
use Rattle.journal_form.specs.Parts.{outs_front}
use Rattle.journal_form.specs.Inner.Seen.{texts}
use Rattle.journal_form.proofs.parts.read_outs.Given as goal

-- the lines so far, and those at the front of what is left
abbrev pub invariant-loop-index : goal.invariant-loop-index
invariant-loop-index l = texts l.outs.items ++ outs_front (drop l.index (texts l.lines)) ≡ outs_front (drop l.from (texts l.lines))
