use Rattle.std.proofs.Common.{◌≡◌, ◌+◌, ◌<◌, ◌^◌, [], length}
use Rattle.node_head.specs.Lines.{halves}
use Rattle.node_head.specs.Inner.Lines.{extended}
use Rattle.node_head.proofs.lines.take_text.Given as goal

-- what was found so far, and what the lines to come make of it
abbrev pub invariant-loop-line : goal.invariant-loop-line
invariant-loop-line l = (extended l.text.items l.count (halves l.lines) ≡ extended [] 0 (halves l.initial.lines)) × (l.count + length l.lines < 2 ^ 64)

abbrev pub decreases-loop-line : goal.decreases-loop-line
decreases-loop-line l = length l.lines
