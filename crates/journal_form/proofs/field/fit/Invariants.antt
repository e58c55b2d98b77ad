use Rattle.std.proofs.Common.{◌≡◌, drop}
use Rattle.journal_form.specs.Outputs.{fit}
use Rattle.journal_form.specs.Inner.Seen.{texts, seen_shape}
use Rattle.journal_form.proofs.field.fit.Given as goal

-- the words so far fit
abbrev pub invariant-loop-index : goal.invariant-loop-index
invariant-loop-index l = fit (seen_shape (drop l.index l.fields)) (texts (drop l.index l.words)) ≡ fit (seen_shape l.fields) (texts l.words)
