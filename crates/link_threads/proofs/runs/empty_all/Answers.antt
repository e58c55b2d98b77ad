use Rattle.std.proofs.Common.{◌<◌, [], length, map, ◌∙◌, arith}
use Rattle.std.proofs.lemmas.List.{length-map}
use Rattle.link_threads.proofs.FeedLemmas.{default}
use Rattle.link_threads.proofs.RunLemmas.{none_so_far, units_there, units_went}
use Rattle.link_threads.proofs.runs.empty_all.Goals as goal

pub empty-requires-after_bounds : goal.empty-requires-after_bounds
empty-requires-after_bounds g c κs within =
    let some = c.loop-lane.invariant.some in (
      some.0,
      units_there g.L.LaneState.plan c.args.doors.now c.loop-lane.passes (λ u. u.items) c.loop-lane.waiting c.loop-lane.lane c.args.number some.0 c.index-doors-lane.result c.index-waiting-lane.result c.index-passes-lane.result
          (omega (arith, c.loop-lane-test.true)) c.index-doors-lane.is some.1,
    )

pub loop-lane-preserved : goal.loop-lane-preserved
loop-lane-preserved g c =
    let plan = g.L.LaneState.plan in
    let doors = c.args.doors.now in
    let lane = c.loop-lane.lane in
    let within : lane < length doors = omega (arith, c.loop-lane-test.true) in
    let some = c.loop-lane.invariant.some in
    record {
      some = (
        some.0,
        units_went plan doors c.loop-lane.passes (λ u. u.items) c.loop-lane.waiting lane c.empty.new.units c.args.number some.0 c.index-doors-lane.result c.empty.new.pass within c.index-doors-lane.is c.in_ok-empty.ensures.none
            (c.in_ok-empty.ensures.fed some.0 (units_there plan doors c.loop-lane.passes (λ u. u.items) c.loop-lane.waiting lane c.args.number some.0 c.index-doors-lane.result c.index-waiting-lane.result c.index-passes-lane.result within c.index-doors-lane.is some.1)) some.1,
      );
      fed = λ left first.
          let h = c.loop-lane.invariant.fed left first in
          units_went plan doors c.loop-lane.passes (λ u. u.items) c.loop-lane.waiting lane c.empty.new.units c.args.number left c.index-doors-lane.result c.empty.new.pass within c.index-doors-lane.is c.in_ok-empty.ensures.none
          (c.in_ok-empty.ensures.fed left (units_there plan doors c.loop-lane.passes (λ u. u.items) c.loop-lane.waiting lane c.args.number left c.index-doors-lane.result c.index-waiting-lane.result c.index-passes-lane.result within c.index-doors-lane.is h)) h;
      none = none_so_far plan doors c.loop-lane.passes (λ u. u.items) c.loop-lane.waiting lane c.empty.new.units (omega (arith, within, some.1.lanes, length-map c.loop-lane.waiting (λ u. u.items))) c.in_ok-empty.ensures.none c.loop-lane.invariant.none;
    }

pub returns-clause-none : goal.returns-clause-none
returns-clause-none g c = λ k d lt.
    default (map (λ u. u.items) c.loop-lane.waiting) k d [] lt ∙ c.loop-lane.invariant.none k (omega (arith, lt, c.loop-lane.invariant.some.1.lanes, c.loop-lane-test.false, c.loop-lane.auto.lane-end))
