use Rattle.node_engine.proofs.RightLemmas.{right-done}
use Rattle.node_engine.proofs.run.book_after.Goals as goal

pub returns : goal.returns
returns g c =
    right-done c.args.head.now c.args.phases c.in_ok-node.node c.book_of.result c.in_ok-node.ensures.lanes c.in_ok-node.ensures.served c.book_of.ensures.legal c.book_of.ensures.value
