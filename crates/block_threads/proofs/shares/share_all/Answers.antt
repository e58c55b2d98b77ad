use Rattle.block_threads.proofs.EachLemmas.{all-given}
use Rattle.block_threads.proofs.shares.share_all.Goals as goal

pub returns : goal.returns
returns g c = all-given c.map_indices.result c.args.threads _ (λ i r gives. gives.met) c.map_indices.ensures.len c.map_indices.ensures.each
