use Rattle.std.proofs.Common.{◌≡◌, true, false, sym, ap, ◌∙◌}
use Rattle.std.specs.Prelude.{is_ok}
use Rattle.gtt_table.proofs.TableLemmas.{kept_insert, table_found}
use Rattle.gtt_table.proofs.table.Table.insert.Goals as goal

pub unreachable-requires : goal.unreachable-requires
unreachable-requires c =
    let found = rw (c.deref.ensures.value, c.as_slice.ensures.value) at c.place.ensures.found in
    let range = rw c.deref.ensures.value at c.place.ensures.range in
    let none = rw (sym c.self.view_is) at c.requires in
    let had = table_found c.args.row.selector c.args.row.prefix c.self.inside.rows.items c.self.inside.added.value c.place.result c.self.invariant range found in
    let no : true ≡ false = sym (ap is_ok c.in_default.is) ∙ had ∙ none in
    cc

pub invariant_of-self-2 : goal.invariant_of-self-2
invariant_of-self-2 c =
    let parted = rw (c.deref.ensures.value, c.as_slice.ensures.value) at c.in-Err.ensures.found in
    let within = rw c.deref.ensures.value at c.in-Err.ensures.range in
    let none = rw (sym c.self.view_is) at c.requires in
    rw (c.in_ok-insert.ensures.items, c.added_with-added.ensures, sym c.self.view_is)
    (kept_insert c.self.inside.rows.items c.self.inside.added.value c.in-Err.at c.args.row c.self.invariant within none parted)
