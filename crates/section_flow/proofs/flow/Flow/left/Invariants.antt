use Rattle.section_flow.proofs.flow.Flow.left.Given as goal
use Rattle.section_flow.specs.Flow.{counts_after_leaving}

abbrev pub ghost-after : goal.ghost-after
ghost-after a = counts_after_leaving a.seen.now.number a.seen.now.flow.now.counts
