use Rattle.section_flow.proofs.flow.Flow.accept.Given as goal
use Rattle.section_flow.specs.Flow.{counts_after_unit}

abbrev pub ghost-after : goal.ghost-after
ghost-after a = counts_after_unit a.seen.now.pr a.seen.now.more a.seen.now.body.now a.seen.now.flow.now.counts
