use Rattle.std.proofs.Common.{length}
use Rattle.capture_input.proofs.PartLemmas.{Passed}
use Rattle.capture_input.proofs.parts.parts_of.Given as goal

-- the octets of the lines so far were passed, and headed where a `%%` stands among these
abbrev pub invariant-loop-line : goal.invariant-loop-line
invariant-loop-line l = Passed l.at l.headed l.lines l.bytes

abbrev pub decreases-loop-line : goal.decreases-loop-line
decreases-loop-line l = length l.lines
