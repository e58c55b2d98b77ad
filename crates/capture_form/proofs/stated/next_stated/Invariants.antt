use Rattle.std.proofs.Common.{◌≡◌, ◌+◌, length}
use Rattle.capture_form.specs.Inner.Stated.{numbered}
use Rattle.capture_form.proofs.stated.next_stated.Given as goal

-- the lines that were passed over state nothing
abbrev pub invariant-loop-octets : goal.invariant-loop-octets
invariant-loop-octets l = record {
  lines : numbered l.number l.lines ≡ numbered l.fn.number l.fn.lines;
  few : l.number + length l.lines ≡ l.fn.number + length l.fn.lines;
}

abbrev pub decreases-loop-octets : goal.decreases-loop-octets
decreases-loop-octets l = length l.lines
