use Rattle.section_coupling.proofs.Composed.{composed}
use Rattle.section_coupling.proofs.opening.open_locally.Goals as goal

pub returns-clause-value : goal.returns-clause-value
returns-clause-value c =
    composed c.args.now _ _ _ _ _ _ c.in_ok-this.ensures.value (c.in_ok-that.ensures.value c.args.now c.args.incoming.now.point c.args.incoming.now.slr) c.in_ok-outs.ensures
