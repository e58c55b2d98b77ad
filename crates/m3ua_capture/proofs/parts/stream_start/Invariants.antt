use Rattle.std.proofs.Common.{◌≡◌, ◌≤◌, []}
use Rattle.m3ua_capture.specs.Streams.{mark_end}
use Rattle.m3ua_capture.proofs.PartLemmas.{looking}
use Rattle.m3ua_capture.proofs.parts.stream_start.Given as goal

-- the line that stands begins no later than here, and what is left to look at gives the place of all octets
abbrev pub invariant-loop-index : goal.invariant-loop-index
invariant-loop-index l = record {
  begun : l.line ≤ l.index;
  left : looking l.bytes l.line l.index ≡ mark_end 0 [] l.bytes;
}
