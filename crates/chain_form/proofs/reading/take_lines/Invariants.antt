use Rattle.std.proofs.Common.{◌≡◌, ◌+◌, ◌<◌, ◌^◌, [], length}
use Rattle.chain_form.specs.Chain.{AreInputSteps, with_lines}
use Rattle.chain_form.proofs.reading.take_lines.Given as goal

-- the steps so far, and what the lines to come make of them
abbrev pub invariant-loop-line : goal.invariant-loop-line
invariant-loop-line l = record {
  taken : with_lines l.nodes l.number l.steps l.lines ≡ with_lines l.nodes 2 [] l.initial.lines;
  few : l.number + length l.lines < 2 ^ 32;
  steps : AreInputSteps l.nodes l.steps;
}

abbrev pub decreases-loop-line : goal.decreases-loop-line
decreases-loop-line l = length l.lines
