use Rattle.std.proofs.Common.{◌≡◌, drop, map}
use Rattle.journal_form.specs.Outputs.{fit_any}
use Rattle.journal_form.specs.Inner.Seen.{texts, seen_shape}
use Rattle.journal_form.proofs.outputs.fit_any.Given as goal

-- the words are of none of the shapes so far
abbrev pub invariant-loop-shape : goal.invariant-loop-shape
invariant-loop-shape l =
    fit_any (map (λ s. seen_shape s.now) (drop l.shape-index l.shapes)) (texts l.words) ≡ fit_any (map (λ s. seen_shape s.now) l.shapes) (texts l.words)
