use Rattle.section_flow.proofs.flow.Flow.same_counts.Given as goal

abbrev pub ghost-after : goal.ghost-after
ghost-after a = a.seen.now.counts
