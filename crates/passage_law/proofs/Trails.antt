-- The laws of a trail, of those of one hop.
use Rattle.passage_law.specs.TrailLaw.{TextsKeepOrder, HopsKeepOrder}
use Rattle.passage_law.proofs.Ordering.{order_of_hops}
use Rattle.passage_law.proofs.Fairness.{runs_are_fair}
use Rattle.passage_law.proofs.Passing.{run_hop, run_rsr}
use Rattle.passage_law.proofs.Ends.{run_ends}

both : TextsKeepOrder × HopsKeepOrder
both = order_of_hops (run_hop runs_are_fair) (run_rsr runs_are_fair) run_ends

pub texts_keep_order : TextsKeepOrder
texts_keep_order = both.0

pub hops_keep_order : HopsKeepOrder
hops_keep_order = both.1
