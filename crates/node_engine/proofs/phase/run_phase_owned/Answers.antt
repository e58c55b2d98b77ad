use Rattle.std.proofs.Common.{subst}
use Rattle.scmg.specs.Control.{IsControlJournal}
use Rattle.node_engine.specs.declared.node.Node.{Node}
use Rattle.node_engine.specs.Running.{Went}
use Rattle.node_engine.proofs.BarrierLemmas.{legal-here}
use Rattle.node_engine.proofs.RightLemmas.{served-more}
use Rattle.node_engine.proofs.phase.run_phase_owned.Goals as goal

pub returns-clause-served : goal.returns-clause-served
returns-clause-served g c = λ before at served.
    let head = c.args.head.now in let lists = c.args.phase in let old = c.args.node.now in let new = c.in_ok-node.field-0 in
    let went : Went head lists old new = subst (λ (node : Node). Went head lists node new) c.replace-lanes.ensures.value c.in_ok-node.ensures.went in
    let legal : IsControlJournal old.control.head old.control.start old.control.journal =
    subst (λ (node : Node). IsControlJournal node.control.head node.control.start node.control.journal) c.replace-lanes.ensures.value c.in_ok-node.ensures.legal in
    let lanes = c.requires.able.lanes in
    served-more head before lists old new (legal-here head old.control lanes.control_head lanes.start legal) went at served
