use Rattle.std.proofs.Common.{[]}
use Rattle.gtt_table.proofs.table.none_added.Given as goal

abbrev pub ghost-after : goal.ghost-after
ghost-after a = []
