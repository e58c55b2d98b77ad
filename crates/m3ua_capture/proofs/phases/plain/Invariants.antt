use Rattle.std.proofs.Common.{◌≡◌}
use Rattle.m3ua_capture.specs.Streams.{plain}
use Rattle.m3ua_capture.proofs.phases.plain.Given as goal

-- the events so far
abbrev pub invariant-loop-stamp : goal.invariant-loop-stamp
invariant-loop-stamp l = l.list ≡ plain l.yielded
