use Rattle.std.proofs.Common.{◌≡◌, map}
use Rattle.std.specs.List.{range_with_len}
use Rattle.chain_step.specs.Run.{first_node}
use Rattle.relay_chain.proofs.nodes.Nodes.new.Given as goal

-- the nodes before this one
abbrev pub invariant-loop-before : goal.invariant-loop-before
invariant-loop-before l = l.nodes.items ≡ map (first_node l.count) (range_with_len 1 l.before)
