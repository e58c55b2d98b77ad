use Rattle.std.proofs.Common.{◌≡◌, ◌+◌, Ok, Err, OnOk, true, sym, subst, rules}
use Rattle.lane_gate.specs.Gates.{origin_of}
use Rattle.lane_gate.specs.Passes.{done_of}
use Rattle.lane_gate.specs.Plan.{IsNext}
use Rattle.link_threads.specs.Gates.{HasFed}
use Rattle.link_threads.specs.Links.{is_in}
use Rattle.link_threads.proofs.FeedLemmas.{passed_over, next_of, fed_more}
use Rattle.link_threads.proofs.feed.deliver_copy.Goals as goal

pub returns-then-not-has : goal.returns-then-not-has
returns-then-not-has g c =
    passed_over g.L.LaneState.plan c.args.arrival.now (g.A.Arrivals.left c.args.link.now) c.args.door.now c.args.pass.now c.requires (search (rules, c.has.ensures))

pub deliver-requires-clause-link : goal.deliver-requires-clause-link
deliver-requires-clause-link g c = sym c.requires.number_is

pub deliver-requires-clause-next : goal.deliver-requires-clause-next
deliver-requires-clause-next g c =
    subst (IsNext (g.L.LaneState.plan (origin_of c.args.door.now.gate)) (λ _. done_of c.args.pass.now) c.args.arrival.now.stamp) (sym c.in_ok-copy.ensures)
    (next_of g.L.LaneState.plan c.args.arrival.now (g.A.Arrivals.left c.args.link.now) c.args.door.now c.args.pass.now c.requires (search (rules, c.has.ensures)))

pub returns : goal.returns
returns g c =
    let a = c.args.arrival.now in
    let left = g.A.Arrivals.left c.args.link.now in
    let mine : is_in c.args.door.now.name a.place ≡ true = search (rules, c.has.ensures) in
    elim c.deliver.result as (λ r. OnOk r (done_of c.deliver.new.pass ≡ done_of c.args.pass.now + 1) → OnOk r (HasFed g.L.LaneState.plan a.stamp.link left c.args.door.now c.deliver.new.pass)) [
      | Ok x ↦ λ done. fed_more g.L.LaneState.plan a left c.args.door.now c.args.pass.now c.requires mine c.deliver.new.pass c.deliver.ensures.same done
      | Err e ↦ λ _. tt
    ] c.deliver.ensures.ok
