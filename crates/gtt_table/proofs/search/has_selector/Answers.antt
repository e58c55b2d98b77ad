use Rattle.std.proofs.Common.{rules, ◌∙◌}
use Rattle.std.proofs.lemmas.Fn.{always_returns_same}
use Rattle.gtt_table.specs.Inner.Order.{selector_cmp}
use Rattle.gtt_table.proofs.OrderLemmas.{selector_found, selector_searchable, with_order}
use Rattle.gtt_table.proofs.search.has_selector.Goals as goal

pub returns : goal.returns
returns c =
    let selector = c.args.selector.now in
    let answers = c.binary_search_by.ensures.position (λ row. selector_cmp row.selector selector) (always_returns_same _ _ _ (λ a r f' k. search rules)) in
    c.is_ok.ensures.value
    ∙ selector_found selector c.args.rows.now c.binary_search_by.result c.binary_search_by.ensures.bound
    (with_order _ _ c.binary_search_by.result answers (selector_searchable selector c.args.rows.now c.requires))
