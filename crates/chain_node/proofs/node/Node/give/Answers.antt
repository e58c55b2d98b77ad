use Rattle.chain_node.proofs.NodeLemmas.{given_ahead, given_back}
use Rattle.chain_node.proofs.node.Node.give.Goals as goal

pub invariant_of-self : goal.invariant_of-self
invariant_of-self c =
    let i = c.self.inside in
    given_ahead i.number i.plant i.lane i.kept c.give.new.self c.args.self.now c.args.forward c.self.invariant
    c.self.view_is c.if-forward.true c.requires c.give.ensures.waiting c.give.ensures.given

pub invariant_of-self-else-forward : goal.invariant_of-self-else-forward
invariant_of-self-else-forward c =
    let i = c.self.inside in
    given_back i.number i.plant i.lane i.kept c.give-else-forward.new.self c.args.self.now c.args.forward c.self.invariant
    c.self.view_is c.if-forward.false c.requires c.give-else-forward.ensures.waiting c.give-else-forward.ensures.given
