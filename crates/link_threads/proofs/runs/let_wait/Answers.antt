use Rattle.std.proofs.Common.{set}
use Rattle.link_threads.proofs.RunLemmas.{unit_waits, units_there, units_went}
use Rattle.link_threads.proofs.runs.let_wait.Goals as goal

pub empty-requires-after_bounds : goal.empty-requires-after_bounds
empty-requires-after_bounds g c κs within =
    let plan = g.L.LaneState.plan in
    let doors = c.args.doors.now in
    let left = c.requires.fed.0 in
    let waits = unit_waits plan doors c.args.passes.now (λ u. u.items) c.args.waiting.now c.args.lane c.push_back.new.self c.args.unit left c.index-waiting-lane.result c.requires.lane c.in_ok-push_back.ensures.items c.requires.fed.1 in (
      left,
      units_there plan doors c.args.passes.now (λ u. u.items) (set c.args.waiting.now c.args.lane c.push_back.new.self) c.args.lane c.args.unit.stamp.link left c.index-doors-lane.result c.index-waiting-lane-then-len-ge-RUN.result
          c.index-passes-lane.result c.requires.lane.within c.index-doors-lane.is waits,
    )

pub returns-in_ok-empty : goal.returns-in_ok-empty
returns-in_ok-empty g c = λ left h.
    let plan = g.L.LaneState.plan in
    let doors = c.args.doors.now in
    let waiting = set c.args.waiting.now c.args.lane c.push_back.new.self in
    let waits = unit_waits plan doors c.args.passes.now (λ u. u.items) c.args.waiting.now c.args.lane c.push_back.new.self c.args.unit left c.index-waiting-lane.result c.requires.lane c.in_ok-push_back.ensures.items h in
    units_went plan doors c.args.passes.now (λ u. u.items) waiting c.args.lane c.empty.new.units c.args.unit.stamp.link left c.index-doors-lane.result c.empty.new.pass c.requires.lane.within c.index-doors-lane.is c.in_ok-empty.ensures.none
    (c.in_ok-empty.ensures.fed left (units_there plan doors c.args.passes.now (λ u. u.items) waiting c.args.lane c.args.unit.stamp.link left c.index-doors-lane.result c.index-waiting-lane-then-len-ge-RUN.result
    c.index-passes-lane.result c.requires.lane.within c.index-doors-lane.is waits)) waits

pub returns-else-len-ge-RUN : goal.returns-else-len-ge-RUN
returns-else-len-ge-RUN g c = λ left h.
    unit_waits g.L.LaneState.plan c.args.doors.now c.args.passes.now (λ u. u.items) c.args.waiting.now c.args.lane c.push_back.new.self c.args.unit left c.index-waiting-lane.result c.requires.lane
    c.in_ok-push_back.ensures.items h
