use Rattle.std.proofs.Common.{rules}
use Rattle.std.proofs.lemmas.Fn.{always_returns_same}
use Rattle.gtt_table.specs.Inner.Order.{row_cmp}
use Rattle.gtt_table.proofs.OrderLemmas.{searchable, with_order}
use Rattle.gtt_table.proofs.search.place.Goals as goal

pub returns-clause-found : goal.returns-clause-found
returns-clause-found c =
    let answers = c.binary_search_by.ensures.position (row_cmp c.args.selector.now c.args.prefix.now) (always_returns_same _ _ _ (λ a r f' k. search rules)) in
    with_order _ _ c.binary_search_by.result answers (searchable c.args.selector.now c.args.prefix.now c.args.rows.now c.requires)
