use Rattle.std.proofs.Common.{◌≡◌, ◌++◌, length}
use Rattle.std.specs.Prelude.{map}
use Rattle.capture_form.specs.Text.{words}
use Rattle.capture_form.proofs.text.split_words.Given as goal

-- the words that were found, and those of the rest
abbrev pub invariant-loop-end : goal.invariant-loop-end
invariant-loop-end l = map (λ w. w.now) l.found.items ++ words l.rest ≡ words l.line

abbrev pub decreases-loop-end : goal.decreases-loop-end
decreases-loop-end l = length l.rest
