use Rattle.std.proofs.Common.{ap, ◌∙◌}
use Rattle.chain_step.specs.Run.{after_event}
use Rattle.chain_node.proofs.NodeLemmas.{node_taken, node_is}
use Rattle.chain_node.proofs.node.Node.take.Goals as goal

pub invariant_of-self-2 : goal.invariant_of-self-2
invariant_of-self-2 c =
    let i = c.self.inside in
    node_taken i.number i.plant _ c.args.event.now i.lane c.enter.new.lane c.in_ok-mail.field-0 i.kept c.prepare.new.kept c.put.new.self
    c.self.invariant c.in_ok-mail.ensures.coming c.prepare.ensures.kept c.in_ok-enter.ensures.takes c.in_ok-enter.ensures.legal
    c.put.ensures.ahead c.put.ensures.back c.put.ensures.references

pub returns-clause-ok : goal.returns-clause-ok
returns-clause-ok c =
    let i = c.self.inside in
    node_is i.plant c.args.step c.args.event.now i.lane c.enter.new.lane i.kept.ahead.given i.kept.back.given c.put.new.self.ahead.given c.put.new.self.back.given
    c.in_ok-enter.ensures.takes c.in_ok-enter.ensures.legal c.self.invariant.first_lane c.self.invariant.edition
    (c.put.ensures.ahead.given ∙ c.prepare.ensures.kept.ahead.given) (c.put.ensures.back.given ∙ c.prepare.ensures.kept.back.given)
    ∙ ap (after_event c.args.step c.args.event.now) c.self.view_is
