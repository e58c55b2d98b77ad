use Rattle.section_flow.proofs.flow.Flow.acknowledge.Given as goal
use Rattle.section_flow.specs.Flow.{counts_after_acknowledgement}

abbrev pub ghost-after : goal.ghost-after
ghost-after a = counts_after_acknowledgement a.seen.now.number a.seen.now.flow.now.counts
