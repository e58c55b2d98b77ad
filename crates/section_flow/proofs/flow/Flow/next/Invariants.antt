use Rattle.section_flow.proofs.flow.Flow.next.Given as goal
use Rattle.section_flow.specs.Flow.{counts_after_sending}

abbrev pub ghost-after : goal.ghost-after
ghost-after a = counts_after_sending a.seen.now.counts
