use Rattle.std.proofs.Common.{◌≡◌, ◌+◌, ◌<◌, ◌^◌, length}
use Rattle.capture_form.specs.Inner.Stated.{numbered}
use Rattle.capture_form.specs.Inner.Reader.{lines_taken, nothing_read}
use Rattle.capture_form.proofs.progress.read_lines.Given as goal

-- what was taken so far, and what the lines to come make of it
abbrev pub invariant-loop-line : goal.invariant-loop-line
invariant-loop-line l = record {
  taken : lines_taken l.head l.read (numbered l.number l.lines) ≡ lines_taken l.head (nothing_read l.head) (numbered l.fn.first l.fn.lines);
  many : l.number + length l.lines ≡ l.fn.first + length l.fn.lines;
  few : l.number + length l.lines < 2 ^ 32;
  links : length l.read.current ≡ l.head.links + 1;
}

abbrev pub decreases-loop-line : goal.decreases-loop-line
decreases-loop-line l = length (numbered l.number l.lines)
