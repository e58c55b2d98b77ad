use Rattle.std.proofs.Common.{◌≡◌}
use Rattle.lane_gate.specs.Passes.{done_of, IsSamePass}
use Rattle.gate_tests.proofs.turns.feed.Given as goal

abbrev pub invariant-loop-line : goal.invariant-loop-line
invariant-loop-line g l = record {
  same : IsSamePass l.initial.pass l.pass;
  done : done_of l.pass ≡ l.line;
}
