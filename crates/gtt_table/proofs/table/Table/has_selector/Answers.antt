use Rattle.std.proofs.Common.{◌∙◌, ap}
use Rattle.gtt_table.specs.Rows.{Rows, is_same_selector}
use Rattle.gtt_table.specs.Translation.{has_selector}
use Rattle.gtt_table.proofs.KeptLemmas.{any_same}
use Rattle.gtt_table.proofs.table.Table.has_selector.Goals as goal

pub returns : goal.returns
returns c =
    let selector = c.args.selector.now in
    let kept = c.self.invariant in
    c.has_selector.ensures ∙ ap (has_selector selector) c.deref.ensures.value
    ∙ any_same (λ row. is_same_selector row.selector selector) c.self.inside.rows.items c.self.inside.added.value kept.were_added kept.stay
    ∙ ap (λ (v : Rows). has_selector selector v.rows) c.self.view_is
