use Rattle.chain_node.proofs.NodeLemmas.{node_begins}
use Rattle.chain_node.proofs.node.Node.with_plant.Goals as goal

pub invariant_of-result : goal.invariant_of-result
invariant_of-result c =
    node_begins c.args.number c.args.plant c.in_ok-lane.lane c.new.result c.requires.least c.requires.most c.in_ok-lane.ensures c.requires.edition c.new.ensures.ahead
    c.new.ensures.back c.new.ensures.references
