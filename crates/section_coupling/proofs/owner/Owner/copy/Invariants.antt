use Rattle.section_coupling.proofs.owner.Owner.copy.Given as goal

abbrev pub ghost-after : goal.ghost-after
ghost-after a = a.seen.now.given.value
