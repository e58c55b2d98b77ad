use Rattle.std.proofs.Common.{◌≡◌, map}
use Rattle.std.specs.List.{range_with_len}
use Rattle.connectionless.specs.Cutting.{segment_output}
use Rattle.connectionless.specs.Inner.Units.{seen_cut}
use Rattle.connectionless.proofs.cutting.CutUnit.segments.Given as goal

abbrev pub invariant-loop-place : goal.invariant-loop-place
invariant-loop-place l =
    l.outs ≡ map (segment_output (seen_cut l.self)) (range_with_len 0 l.place)
