use Rattle.std.proofs.Common.{◌≡◌, true, get_or, sym, ap, ◌∙◌}
use Rattle.std.specs.Prelude.{Contains, is_ok}
use Rattle.std.specs.Ordering.{is_eq}
use Rattle.gtt_table.specs.Rows.{has_key, has_row}
use Rattle.gtt_table.proofs.KeyLemmas.{length-without}
use Rattle.gtt_table.proofs.KeptLemmas.{find_same, found_is}
use Rattle.gtt_table.proofs.OrderLemmas.{ordered_distinct, same_key_cmp}
use Rattle.gtt_table.proofs.TableLemmas.{kept_remove, table_found}
use Rattle.gtt_table.proofs.table.Table.remove.Goals as goal

pub returns-in_default-clause-err : goal.returns-in_default-clause-err
returns-in_default-clause-err c =
    let found = rw (c.deref.ensures.value, c.as_slice.ensures.value) at c.place.ensures.found in
    let range = rw c.deref.ensures.value at c.place.ensures.range in
    let had = table_found c.args.selector.now c.args.prefix.now c.self.inside.rows.items c.self.inside.added.value c.place.result c.self.invariant range found in
    rw (sym c.self.view_is) (sym had ∙ ap is_ok c.in_default.is)

pub invariant_of-self : goal.invariant_of-self
invariant_of-self c =
    let selector = c.args.selector.now in
    let prefix = c.args.prefix.now in
    let row = get_or c.self.inside.rows.items c.in-Ok.at c.remove-row.result in
    let found = rw (c.deref.ensures.value, c.as_slice.ensures.value) at c.in-Ok.ensures.found in
    let below = rw c.deref.ensures.value at c.in-Ok.ensures.range in
    let key : has_key selector prefix row ≡ true = same_key_cmp selector prefix row ∙ ap is_eq (found c.remove-row.result) in
    rw (c.remove-row.ensures.items, c.added_without-added.ensures, sym c.self.view_is)
    (kept_remove selector prefix c.self.inside.rows.items c.self.inside.added.value c.in-Ok.at c.remove-row.result c.self.invariant below key)

pub returns-clause-ok : goal.returns-clause-ok
returns-clause-ok c =
    let selector = c.args.selector.now in
    let prefix = c.args.prefix.now in
    let items = c.self.inside.rows.items in
    let row = get_or items c.in-Ok.at c.remove-row.result in
    let found = rw (c.deref.ensures.value, c.as_slice.ensures.value) at c.in-Ok.ensures.found in
    let below = rw c.deref.ensures.value at c.in-Ok.ensures.range in
    let key : has_key selector prefix c.remove-row.result ≡ true =
    ap (has_key selector prefix) c.remove-row.ensures.value ∙ same_key_cmp selector prefix row ∙ ap is_eq (found c.remove-row.result) in
    let there : Contains items c.remove-row.result = (c.in-Ok.at, below, sym c.remove-row.ensures.value) in
    let kept = c.self.invariant in
    rw (sym c.self.view_is)
    (sym (find_same selector prefix items c.self.inside.added.value kept.distinct kept.were_added kept.stay)
    ∙ found_is selector prefix items c.remove-row.result (ordered_distinct items kept.ordered) there key)

pub returns-clause-one : goal.returns-clause-one
returns-clause-one c =
    let selector = c.args.selector.now in
    let prefix = c.args.prefix.now in
    let found = rw (c.deref.ensures.value, c.as_slice.ensures.value) at c.place.ensures.found in
    let range = rw c.deref.ensures.value at c.place.ensures.range in
    let had : has_row selector prefix c.self.inside.added.value ≡ true =
    sym (table_found selector prefix c.self.inside.rows.items c.self.inside.added.value c.place.result c.self.invariant range found) ∙ ap is_ok c.in-Ok.is in
    rw (c.added_without-added.ensures, sym c.self.view_is) (length-without selector prefix c.self.inside.added.value c.self.invariant.distinct had)
