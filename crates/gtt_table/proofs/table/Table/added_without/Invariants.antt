use Rattle.gtt_table.specs.Rows.{without}
use Rattle.gtt_table.proofs.table.Table.added_without.Given as goal

abbrev pub ghost-after : goal.ghost-after
ghost-after a = without a.seen.now.selector.now a.seen.now.prefix.now a.seen.now.table.now.rows
