use Rattle.std.proofs.Common.{◌≡◌}
use Rattle.lane_gate.specs.Gates.{origin_of, callers_of}
use Rattle.lane_gate.proofs.gate.Gate.hand_over_in_turn.Given as goal

abbrev pub ghosts-enter : goal.ghosts-enter
ghosts-enter g a = record { known = λ lane. g.L.LaneState.plan lane ≡ g.L.LaneState.plan (origin_of a.self.now); callers = callers_of a.self.now }
