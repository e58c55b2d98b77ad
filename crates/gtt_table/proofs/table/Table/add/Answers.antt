use Rattle.std.proofs.Common.{sym, ◌∙◌}
use Rattle.gtt_table.proofs.KeyLemmas.{new_key}
use Rattle.gtt_table.proofs.table.Table.add.Goals as goal

pub insert-requires : goal.insert-requires
insert-requires c = new_key c.args.self.now.rows c.args.row (sym c.in_default.is ∙ c.refusal.ensures)
