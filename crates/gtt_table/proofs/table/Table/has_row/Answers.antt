use Rattle.std.proofs.Common.{◌∙◌, ap}
use Rattle.gtt_table.specs.Rows.{Rows, has_row}
use Rattle.gtt_table.proofs.TableLemmas.{table_found}
use Rattle.gtt_table.proofs.table.Table.has_row.Goals as goal

pub returns-clause-value : goal.returns-clause-value
returns-clause-value c =
    let found = rw (c.deref.ensures.value, c.as_slice.ensures.value) at c.place.ensures.found in
    let range = rw c.deref.ensures.value at c.place.ensures.range in
    c.is_ok.ensures.value ∙ table_found c.args.selector.now c.args.prefix.now c.self.inside.rows.items c.self.inside.added.value c.place.result c.self.invariant range found
    ∙ ap (λ (v : Rows). has_row c.args.selector.now c.args.prefix.now v.rows) c.self.view_is
