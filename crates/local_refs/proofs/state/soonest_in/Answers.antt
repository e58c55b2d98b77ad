use Rattle.std.proofs.Common.{arith}
use Rattle.local_refs.proofs.Sweeps.{soonest_bound, soonest_step, soonest_past}
use Rattle.local_refs.proofs.state.soonest_in.Goals as goal

pub loop-state-init : goal.loop-state-init
loop-state-init c = (omega (arith, soonest_bound c.args.states.now), omega arith)

pub loop-state-preserved : goal.loop-state-preserved
loop-state-preserved c =
    let step = soonest_step c.args.states.now c.loop-state.state-index _ c.left.result c.left.ensures c.loop-state-test.true in
    (omega (arith, c.loop-state.invariant.0, c.min-soonest.ensures, step), omega (arith, c.loop-state.invariant.1, c.min-soonest.ensures))

pub returns : goal.returns
returns c =
    omega (arith, c.loop-state.invariant.0, c.loop-state.invariant.1, soonest_past c.args.states.now c.loop-state.state-index (omega (arith, c.loop-state-test.false)))
