use Rattle.chain_node.proofs.queue.none_given.Given as goal

abbrev pub ghost-after : goal.ghost-after
ghost-after a = 0
