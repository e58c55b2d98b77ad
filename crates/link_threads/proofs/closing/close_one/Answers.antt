use Rattle.link_threads.proofs.CloseLemmas.{taken_full}
use Rattle.link_threads.proofs.closing.close_one.Goals as goal

pub returns : goal.returns
returns g c = record {
  same = c.close.ensures.plan;
  all = taken_full g.L.LaneState.plan c.args.gate c.args.passes (g.L.LaneState.taken c.close.result) c.requires c.close.ensures.taken c.close.ensures.others;
}
