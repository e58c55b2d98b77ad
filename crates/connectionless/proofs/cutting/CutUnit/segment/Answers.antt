use Rattle.std.proofs.Common.{arith, ◌*◌, length, ap}
use Rattle.connectionless.specs.Unitdata.{message_of}
use Rattle.connectionless.proofs.Ranges.{segment-in_range, length-part}
use Rattle.connectionless.proofs.cutting.CutUnit.segment.Goals as goal

pub octets_of-requires : goal.octets_of-requires
unfolding message_of
octets_of-requires c =
    let unit = c.args.self.now in
    segment-in_range _ _ unit.called.now unit.calling.now _ _ unit.importance
    (omega (arith, length-part c.segment_size-size.result (c.segment_size-size.result * c.args.place) unit.body.now c.part.result.now c.part.ensures, c.segment_size-size.ensures.value))
    (ap length c.segmentation.ensures)
