use Rattle.std.specs.Prelude.{◌+◌}
use Rattle.chain_node.proofs.queue.Queue.one_more.Given as goal

abbrev pub ghost-after : goal.ghost-after
ghost-after a = a.seen.now.given + 1
