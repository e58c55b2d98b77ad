use Rattle.section_flow.proofs.flow.Flow.tell.Given as goal
use Rattle.section_flow.specs.Flow.{counts_after_telling}

abbrev pub ghost-after : goal.ghost-after
ghost-after a = counts_after_telling a.seen.now.counts
