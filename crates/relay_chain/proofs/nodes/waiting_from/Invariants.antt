use Rattle.std.proofs.Common.{◌≡◌, ◌≤◌, ◌*◌, ◌^◌, take}
use Rattle.std.specs.Prelude.{sum_by}
use Rattle.chain_step.specs.Run.{queue_length}
use Rattle.relay_chain.proofs.nodes.waiting_from.Given as goal

-- the messages of the nodes so far
abbrev pub invariant-loop-node : goal.invariant-loop-node
invariant-loop-node l =
    (l.count ≡ sum_by (queue_length l.forward) (take l.node-index l.nodes))
    × (l.count ≤ l.node-index * 2 ^ 64)
