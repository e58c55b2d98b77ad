use Rattle.std.proofs.Common.{get_or, subst}
use Rattle.link_threads.specs.Gates.{FeederState, HasRun}
use Rattle.block_threads.proofs.BesideLemmas.{beside_by}
use Rattle.link_threads.proofs.feeders.run_all.Goals as goal

pub returns : goal.returns
returns g c = beside_by (HasRun g.L.LaneState.plan) c.args.all.now c.for_each_mut.new.s c.for_each_mut.auto.s (λ i d lt.
    let change = (c.for_each_mut.ensures i d lt).1 in
    subst (HasRun g.L.LaneState.plan (get_or c.args.all.now i d)) change.left
    (subst (λ (x : FeederState g.row.L.Denot g.row.L-Event.Denot). HasRun g.L.LaneState.plan x change.after_call.now) change.argument_is change.call))
