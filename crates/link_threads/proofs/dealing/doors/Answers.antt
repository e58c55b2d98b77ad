use Rattle.std.proofs.Common.{◌++◌, [], ◌∷◌, length, map, All, sym, ap, ◌∙◌, subst, arith, length-append}
use Rattle.std.proofs.lemmas.List.{map-append}
use Rattle.std.proofs.lemmas.List.Elements.{All-tail}
use Rattle.lane_gate.specs.Gates.{origin_of}
use Rattle.link_threads.specs.Gates.{AreDealt, IsAtOpening}
use Rattle.link_threads.proofs.DealLemmas.{door_of, dealt_again}
use Rattle.link_threads.proofs.dealing.doors.Goals as goal

pub loop-lane-preserved : goal.loop-lane-preserved
loop-lane-preserved g c =
    let inv = c.loop-lane.invariant in
    let plan = g.L.LaneState.plan in
    let links = map g.A.Arrivals.left c.args._links.now in
    let Is = IsAtOpening plan g.L.LaneState.taken g.L.Named.name_of links in
    let lane = c.in-Some.lane in
    let door = c.in_ok-door.door in
    let made = c.in_ok-door.ensures in
    let items = c.push_reserved.ensures.items in
    let step = c.in-Some.ensures.steps.0 in
    let rest = subst (All Is) step inv.rest in
    let is = door_of plan links g.L.LaneState.taken g.L.Named.name_of lane door (rest 0 lane (omega arith)) made.name made.origin (made.callers ∙ inv.dealt.count) in
    record {
      origins = ap (map (λ d. origin_of d.gate)) items ∙ (map-append (λ d. origin_of d.gate) c.loop-lane.doors.items (door ∷ []) ∙ (λ i. (inv.origins i) ++ (made.origin i) ∷ []));
      dealt = subst (λ l. AreDealt plan links l c.door.new.hands) (sym items) (dealt_again plan links c.loop-lane.doors.items c.loop-lane.hands c.door.new.hands door is made.dealt inv.dealt);
      rest = All-tail Is lane c.next.new.self.rest.items rest;
      room = omega (arith, ap length items, length-append c.loop-lane.doors.items (door ∷ []), ap length step, inv.room, c.push_reserved.ensures.capacity);
    }
