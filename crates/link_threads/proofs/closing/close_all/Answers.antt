use Rattle.std.proofs.Common.{◌<◌, List, length, drop, All, sym, ◌∙◌, subst}
use Rattle.std.proofs.lemmas.List.{with_items_is}
use Rattle.lane_gate.specs.Gates.{origin_of}
use Rattle.block_threads.specs.Items.{Beside}
use Rattle.link_threads.specs.Gates.{Hand, GivePasses, AreUsed, HasTaken}
use Rattle.link_threads.proofs.CloseLemmas.{used_up, used_rest, some_left, closed_more}
use Rattle.link_threads.proofs.closing.close_all.Goals as goal

pub take_back-requires : goal.take_back-requires
take_back-requires g c =
    subst (All (λ (h : Hand). 0 < length h.items)) (sym c.as_mut_slice.ensures.value)
    (some_left g.L.LaneState.plan c.loop-door.invariant.used.links c.loop-door.doors.items c.pop.new.self.items c.in-Some.door c.loop-door.hands.items c.in-Some.ensures.items c.loop-door.invariant.used.used)

pub close_one-lane-requires : goal.close_one-lane-requires
close_one-lane-requires g c =
    let gives = subst (λ (l : List Hand). GivePasses l c.take_back.new.hands c.in_ok-passes.passes) c.as_mut_slice.ensures.value c.in_ok-passes.ensures in
    used_up g.L.LaneState.plan c.loop-door.invariant.used.links c.loop-door.doors.items c.pop.new.self.items c.in-Some.door c.in-Some.ensures.items c.loop-door.hands.items c.take_back.new.hands c.in_ok-passes.passes gives c.loop-door.invariant.used.used

pub loop-door-preserved : goal.loop-door-preserved
loop-door-preserved g c =
    let plan = g.L.LaneState.plan in
    let links = c.loop-door.invariant.used.links in
    let news = c.take_back.new.hands in
    let rest = c.pop.new.self.items in
    let gives = subst (λ (l : List Hand). GivePasses l news c.in_ok-passes.passes) c.as_mut_slice.ensures.value c.in_ok-passes.ensures in
    let left = used_rest plan links c.loop-door.doors.items rest c.in-Some.door c.in-Some.ensures.items c.loop-door.hands.items news c.in_ok-passes.passes gives c.loop-door.invariant.used.used in
    let all = with_items_is c.loop-door.hands news (c.take_back.auto.hands ∙ c.as_mut_slice.ensures.len) in
    let more = closed_more (λ door. HasTaken plan g.L.LaneState.taken (origin_of door.gate)) c.args.doors.items c.loop-door.doors.items rest c.in-Some.door c.close_one-lane.result c.loop-door.lanes.items c.in-Some.ensures.items c.loop-door.invariant.kept c.loop-door.invariant.closed c.close_one-lane.ensures in
    record {
      used = record { links = links; used = subst (AreUsed plan links rest) (sym all) left };
      kept = more.0;
      closed = subst (Beside (λ door. HasTaken plan g.L.LaneState.taken (origin_of door.gate)) (drop (length rest) c.args.doors.items)) (sym c.in_ok-insert.ensures.items) more.1;
    }
