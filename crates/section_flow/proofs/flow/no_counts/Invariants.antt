use Rattle.section_flow.proofs.flow.no_counts.Given as goal
use Rattle.section_flow.specs.Flow.{no_counts}

abbrev pub ghost-after : goal.ghost-after
ghost-after a = no_counts
