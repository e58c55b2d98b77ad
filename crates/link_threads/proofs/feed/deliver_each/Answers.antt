use Rattle.std.proofs.Common.{◌≡◌, ◌+◌, ◌<◌, Ok, Err, OnOk, true, length, get_or, set, sym, subst, arith}
use Rattle.lane_gate.specs.declared.pass.Pass.{Pass}
use Rattle.lane_gate.specs.Passes.{done_of}
use Rattle.block_threads.specs.Items.{Beside}
use Rattle.link_threads.specs.declared.door.Door.{Door}
use Rattle.link_threads.specs.Links.{is_in}
use Rattle.link_threads.specs.Gates.{HasFed}
use Rattle.link_threads.proofs.FeedLemmas.{next_of, fed_more, fed_here, below_more, below_all, for_none}
use Rattle.link_threads.proofs.feed.deliver_each.Goals as goal

pub returns-in_default : goal.returns-in_default
returns-in_default g c =
    for_none g.L.LaneState.plan c.args.arrival (g.A.Arrivals.left c.args.link.now) c.args.doors.now c.args.passes.now c.in_default.ensures.none c.requires

pub deliver-requires-clause-link : goal.deliver-requires-clause-link
deliver-requires-clause-link g c =
    let fed = c.in_ok-deliver_copies.ensures.after c.in-Some.last c.index-doors-last.result c.index-passes-last.result (omega arith) c.in-Some.ensures.some.within in
    sym fed.number_is

pub deliver-requires-clause-next : goal.deliver-requires-clause-next
deliver-requires-clause-next g c =
    let last = c.in-Some.ensures.some in
    let fed = c.in_ok-deliver_copies.ensures.after c.in-Some.last c.index-doors-last.result c.index-passes-last.result (omega arith) last.within in
    next_of g.L.LaneState.plan c.args.arrival (g.A.Arrivals.left c.args.link.now) _ _ fed (last.here c.index-doors-last.result)

pub returns : goal.returns
returns g c =
    let plan = g.L.LaneState.plan in
    let a = c.args.arrival in
    let left = g.A.Arrivals.left c.args.link.now in
    let doors = c.args.doors.now in
    let last = c.in-Some.ensures.some in
    let door = c.index-doors-last.result in
    let below = c.in_ok-deliver_copies.ensures in
    let passes = c.deliver_copies.new.passes in
    let pass : Pass = get_or passes c.in-Some.last c.index-passes-last.result in
    let within : c.in-Some.last < length passes = omega (arith, last.within, below.size) in
    let mine : is_in door.name a.place ≡ true = subst (λ (x : Door g.row.L.Denot g.row.L-Event.Denot). is_in x.name a.place ≡ true) (sym c.index-doors-last.is) (last.here door) in
    let fed = fed_here plan a left doors c.in-Some.last passes door c.index-passes-last.result within c.index-doors-last.is below in
    elim c.deliver.result as (λ r. OnOk r (done_of c.deliver.new.pass ≡ done_of pass + 1) → OnOk r (Beside (HasFed plan a.stamp.link left) doors (set passes c.in-Some.last c.deliver.new.pass))) [
      | Ok x ↦ λ done. below_all plan a left doors (c.in-Some.last + 1) (set passes c.in-Some.last c.deliver.new.pass) (λ k d past lt. last.behind k d (omega (arith, past)) lt)
          (below_more plan a left doors c.in-Some.last passes door c.deliver.new.pass within c.index-doors-last.is (fed_more plan a left door pass fed mine c.deliver.new.pass c.deliver.ensures.same done) below)
      | Err e ↦ λ _. tt
    ] c.deliver.ensures.ok
