use Rattle.link_threads.proofs.RunLemmas.{fed_first}
use Rattle.link_threads.proofs.runs.deliver_first.Goals as goal

pub returns : goal.returns
returns g c = λ units left h.
    fed_first g.L.LaneState.plan c.args.number c.args.unit units left c.args.door.now c.args.pass.now c.deliver.new.pass h c.deliver.ensures.same c.in_ok-deliver.ensures.ok
