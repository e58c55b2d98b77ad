use Rattle.std.proofs.Common.{◌∙◌}
use Rattle.reassembly.specs.Reassembly.{takes}
use Rattle.data_lane.proofs.TakingLemmas.{taken-outs, as-before}
use Rattle.data_lane.proofs.gathering.take.Goals as goal

pub returns-clause-outs : goal.returns-clause-outs
returns-clause-outs c =
    taken-outs c.args.own (takes c.args.bench.now.ticks c.args.bench.now.processes c.args.piece) c.take.new.self.processes c.in_ok-taken.taken c.args.outs _ _ c.put_now.result
    c.in_ok-taken.ensures.ok (c.into_vec-outs.ensures ∙ c.in_ok-put_ended.ensures) c.reserve.ensures.items c.put_now.ensures.ok

pub returns-clause-err : goal.returns-clause-err
returns-clause-err c =
    as-before c.args.bench.now c.take.new.self c.args.piece c.in_ok-taken.taken c.put_now.result c.in_ok-taken.ensures.ok c.take.ensures.ticks c.put_now.ensures.err
