use Rattle.std.specs.List.{range_with_len}
use Rattle.relay_chain.proofs.RunLemmas.{start_short, nodes_more}
use Rattle.relay_chain.proofs.nodes.Nodes.new.Goals as goal

pub invariant_of-result : goal.invariant_of-result
invariant_of-result c = start_short c.args.count (range_with_len 1 c.loop-before.before) c.loop-before.nodes.items c.loop-before.invariant

pub loop-before-preserved : goal.loop-before-preserved
loop-before-preserved c =
    nodes_more c.args.count c.loop-before.before c.loop-before.nodes.items c.push.new.self.items c.in_ok-new.field-0 c.loop-before.invariant c.in_ok-new.ensures
    c.in_ok-push.ensures.items
