use Rattle.local_refs.proofs.Sweeps.{swept_next}
use Rattle.local_refs.proofs.state.sweep.Goals as goal

pub loop-state-preserved : goal.loop-state-preserved
loop-state-preserved c =
    swept_next c.args.states.now c.loop-state.states c.args.ticks c.loop-state.state-index _ c.swept.result c.loop-state.invariant c.swept.ensures c.loop-state-test.true
