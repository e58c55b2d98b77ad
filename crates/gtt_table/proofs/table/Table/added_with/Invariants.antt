use Rattle.std.proofs.Common.{[], ◌∷◌, ◌++◌}
use Rattle.gtt_table.proofs.table.Table.added_with.Given as goal

abbrev pub ghost-after : goal.ghost-after
ghost-after a = a.seen.now.0.now.rows ++ a.seen.now.1.now ∷ []
