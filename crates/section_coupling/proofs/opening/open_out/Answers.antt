use Rattle.section_coupling.proofs.Composed.{composed}
use Rattle.section_coupling.proofs.opening.open_out.Goals as goal

pub returns-clause-value : goal.returns-clause-value
returns-clause-value c =
    let own = c.args.terms.now.own in
    composed c.args.now _ _ _ _ _ _ (c.in_ok-this.ensures.value c.args.now own 0) (c.in_ok-that.ensures.value own 0) c.in_ok-outs.ensures
