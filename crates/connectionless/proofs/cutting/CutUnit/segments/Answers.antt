use Rattle.std.proofs.Common.{arith}
use Rattle.std.proofs.lemmas.List.FromFn.{map-range_with_len_more}
use Rattle.connectionless.specs.Cutting.{segment_output}
use Rattle.connectionless.specs.Inner.Units.{seen_cut}
use Rattle.connectionless.proofs.cutting.CutUnit.segments.Goals as goal

pub loop-place-preserved : goal.loop-place-preserved
loop-place-preserved c =
    let unit = c.args.self.now in
    let more = map-range_with_len_more (segment_output (seen_cut unit)) 0 c.loop-place.place c.loop-place.place (omega arith) in
    cc (c.in_ok-push.ensures.ok, c.in_ok-segment.ensures, c.loop-place.invariant, more)
