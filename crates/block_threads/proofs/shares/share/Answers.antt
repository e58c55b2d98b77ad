use Rattle.std.proofs.Common.{◌≡◌, ℕ, ◌++◌, [], ◌∷◌, slice_index_or, sym, ◌∙◌, subst, arith, rules}
use Rattle.std.specs.List.{AllByRecursion}
use Rattle.std.specs.Fn.{FnReturnsAt}
use Rattle.block_threads.specs.Inner.Shares.{IsDone}
use Rattle.std.proofs.ByRecursion.{All-push}
use Rattle.block_threads.proofs.EachLemmas.{index-any}
use Rattle.block_threads.proofs.shares.share.Goals as goal

pub loop-preserved : goal.loop-preserved
loop-preserved g c =
    let is_done = IsDone (FnReturnsAt g.F.Fn c.args.f.now) c.args.items.now in
    let done : ℕ × g.row.X.Denot = (c.fetch_add-number.result, c.ask.result) in
    let gives : (d : g.row.T.Denot) → FnReturnsAt g.F.Fn c.args.f.now (slice_index_or c.args.items.now c.fetch_add-number.result d) c.ask.result = (λ d.
    let at : c.index-items-number.result ≡ slice_index_or c.args.items.now c.fetch_add-number.result d = c.index-items-number.is ∙ index-any c.args.items.now c.fetch_add-number.result c.index-items-number.result d (search (rules, arith)) in
    subst (λ item. FnReturnsAt g.F.Fn c.args.f.now item c.ask.result) at c.ask.ensures) in
    let items : c.push.new.self.items ≡ c.loop.done.items ++ done ∷ [] = search rules in
    subst (AllByRecursion is_done) (sym items) (All-push is_done c.loop.done.items done c.loop.invariant (search (rules, arith), gives))
