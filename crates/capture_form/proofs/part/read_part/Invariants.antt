use Rattle.std.proofs.Common.{◌≡◌, ◌+◌, ◌++◌, ◌<◌, ◌^◌, length, map}
use Rattle.node_head.specs.Lines.{lines}
use Rattle.capture_form.specs.Inner.Stated.{numbered}
use Rattle.capture_form.specs.Inner.LineRead.{line_read}
use Rattle.capture_form.proofs.part.read_part.Given as goal

-- what the lines so far say, and those to come
abbrev pub invariant-loop-line : goal.invariant-loop-line
invariant-loop-line l = record {
  said : l.reads.items ++ map (line_read l.head) (numbered l.number l.lines) ≡ map (line_read l.head) (numbered 0 (lines l.fn.part));
  many : l.number + length l.lines ≡ length (lines l.fn.part);
  few : l.number + length l.lines < 2 ^ 32;
}

abbrev pub decreases-loop-line : goal.decreases-loop-line
decreases-loop-line l = length (numbered l.number l.lines)
