use Rattle.std.proofs.Common.{◌<◌, length, subst, arith}
use Rattle.link_threads.specs.Gates.{IsFedBelow}
use Rattle.link_threads.proofs.FeedLemmas.{fed_here, below_none, below_more}
use Rattle.link_threads.proofs.feed.deliver_copies.Goals as goal

pub loop-lane-init : goal.loop-lane-init
loop-lane-init g c = below_none g.L.LaneState.plan c.args.arrival.now (g.A.Arrivals.left c.args.link.now) c.args.doors.now c.args.passes.now c.requires.ready

pub deliver_copy-requires : goal.deliver_copy-requires
deliver_copy-requires g c =
    let within : c.loop-lane.lane < length c.loop-lane.passes = omega (arith, c.loop-lane.invariant.size, c.loop-lane-test.true, c.requires.last) in
    fed_here g.L.LaneState.plan c.args.arrival.now (g.A.Arrivals.left c.args.link.now) c.args.doors.now c.loop-lane.lane c.loop-lane.passes c.index-doors-lane.result c.index-passes-lane.result within c.index-doors-lane.is c.loop-lane.invariant

pub loop-lane-preserved : goal.loop-lane-preserved
loop-lane-preserved g c =
    let within : c.loop-lane.lane < length c.loop-lane.passes = omega (arith, c.loop-lane.invariant.size, c.loop-lane-test.true, c.requires.last) in
    below_more g.L.LaneState.plan c.args.arrival.now (g.A.Arrivals.left c.args.link.now) c.args.doors.now c.loop-lane.lane c.loop-lane.passes c.index-doors-lane.result c.deliver_copy.new.pass within c.index-doors-lane.is c.in_ok-deliver_copy.ensures c.loop-lane.invariant

pub returns : goal.returns
returns g c = subst (λ n. IsFedBelow g.L.LaneState.plan c.args.arrival.now (g.A.Arrivals.left c.args.link.now) n c.args.doors.now c.loop-lane.passes) (omega (arith, c.loop-lane-test.false, c.loop-lane.auto.lane-end)) c.loop-lane.invariant
