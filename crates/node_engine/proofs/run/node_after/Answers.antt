use Rattle.capture_form.specs.Events.{all_events}
use Rattle.node_engine.proofs.RightLemmas.{first-can, first-served}
use Rattle.node_engine.proofs.run.node_after.Goals as goal

pub node_run-requires-clause-able : goal.node_run-requires-clause-able
node_run-requires-clause-able g c = λ lifetimes bounds.
    first-can c.args.head.now (all_events c.args.phases) c.in_ok-node.node c.requires.head c.requires.few c.in_ok-node.ensures

pub node_run-requires-clause-served : goal.node_run-requires-clause-served
node_run-requires-clause-served g c = λ lifetimes bounds. first-served c.args.head.now c.in_ok-node.node c.in_ok-node.ensures
