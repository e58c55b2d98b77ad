use Rattle.gtt_table.proofs.table.Table.same_added.Given as goal

abbrev pub ghost-after : goal.ghost-after
ghost-after a = a.seen.now.rows
