use Rattle.std.proofs.Common.{rules, tests}
use Rattle.std.proofs.lemmas.Iterator.{YieldsList-from_slice, YieldsList-from_map_by}
use Rattle.std.proofs.lemmas.Iterator.Consumers.{nth_from_yields_List, YieldsList-from_filter}
use Rattle.reassembly.specs.Reassembly.{is_due}
use Rattle.reassembly.proofs.bench.Bench.due.Goals as goal

pub returns : goal.returns
returns c =
    nth_from_yields_List c.nth.result _ c.args.at c.nth.ensures.ran
    (YieldsList-from_map_by _ (λ x. x.now) (λ x. x.first)
    (YieldsList-from_filter _ is_due (YieldsList-from_slice c.args.self.now.processes cc) c.filter-due.ensures.closure (λ x b q k. search (rules, tests)))
    c.map.ensures.closure (λ x r q k. search rules))
