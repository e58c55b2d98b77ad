use Rattle.std.proofs.Common.{rules, ap, sym, arith, Global, Vec}
use Rattle.lane_events.specs.Pending.{Pending, Waiting}
use Rattle.lane_events.proofs.PendingLemmas.{next_there, taken_there}
use Rattle.lane_events.proofs.lane_events.LaneEvents.take.Goals as goal

pub returns-in_err-event-clause-next : goal.returns-in_err-event-clause-next
returns-in_err-event-clause-next c =
    let there = next_there (λ (v : Vec Pending Global). v.items) c.self.inside.phases.items c.self.inside.reached c.args.stamp c.index_mut.result.now (grind arith) c.if-stamp-self.false (grind arith) c.index_mut.ensures.value in
    search (rules, there)

pub returns-clause-next : goal.returns-clause-next
returns-clause-next c =
    let there = next_there (λ (v : Vec Pending Global). v.items) c.self.inside.phases.items c.self.inside.reached c.args.stamp c.index_mut.result.now (grind arith) c.if-stamp-self.false (grind arith) c.index_mut.ensures.value in
    search (rules, there)

pub returns-clause-taken : goal.returns-clause-taken
returns-clause-taken c =
    let phases = taken_there (λ (v : Vec Pending Global). v.items) c.self.inside.phases.items c.args.self.now c.args.stamp c.index_mut.result.now c.take_on.new.links (grind arith) (grind arith) c.index_mut.ensures.value (ap (λ w. w.phases) (sym c.self.view_is)) c.in_ok-event.ensures.taken in
    ap (λ ps. let w : Waiting = record { phases = ps; reached = c.args.stamp.phase } in w) phases
