use Rattle.std.proofs.Common.{◌≡◌, ◌++◌, length}
use Rattle.m3ua_capture.specs.Inner.Feeding.{IsFed}
use Rattle.m3ua_capture.proofs.feeding.feed_all.Given as goal

-- the octets fed, and the rest of the stream
abbrev pub invariant-loop-rest : goal.invariant-loop-rest
invariant-loop-rest l = record {
  whole : l.port.fed ++ l.rest ≡ l.stream;
  fed : IsFed l.port l.initial.port.own l.port.fed l.events;
}

abbrev pub decreases-loop-rest : goal.decreases-loop-rest
decreases-loop-rest l = length l.rest
