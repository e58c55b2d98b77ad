use Rattle.std.proofs.Common.{◌<◌, length, arith}
use Rattle.std.proofs.lemmas.List.Edits.{map_over_more}
use Rattle.scmg.specs.Control.{lowered}
use Rattle.scmg.proofs.timed.lower.Goals as goal

pub loop-place-preserved : goal.loop-place-preserved
loop-place-preserved c =
    let within : c.loop-place.place < length c.args.list.now.items = omega arith in
    rw c.lowered.ensures (map_over_more lowered c.args.list.now.items c.loop-place.list.items c.loop-place.place c.index.result.now within c.loop-place.invariant c.index.ensures)
