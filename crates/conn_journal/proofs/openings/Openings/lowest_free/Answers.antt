use Rattle.std.proofs.Common.{◌≡◌, ◌+◌, ◌++◌, ◌∷◌, [], Some, length, sym, ap, ◌∙◌, arith, length-append}
use Rattle.std.specs.Prelude.{slice_get}
use Rattle.local_refs.specs.Slots.{free_references}
use Rattle.conn_journal.proofs.Hears.{next_lowest, too_few, enough_found}
use Rattle.conn_journal.proofs.openings.Openings.lowest_free.Goals as goal

pub loop-at-init : goal.loop-at-init
loop-at-init g c = (c.new-lowest.ensures, ap (λ xs. length xs) c.new-lowest.ensures)

pub returns-in-None : goal.returns-in-None
returns-in-None g c =
    c.new.ensures
    ∙ too_few (free_references c.args.self.now.state.slots) c.loop-at.at c.args.count
    (ap (λ v. slice_get (free_references v.state.slots) c.loop-at.at) (sym c.self.view_is) ∙ (sym c.peek.ensures ∙ c.in-None.is)) c.loop-at-test.true

pub loop-at-preserved : goal.loop-at-preserved
loop-at-preserved g c =
    let found : slice_get (free_references c.args.self.now.state.slots) c.loop-at.at ≡ Some c.in-Some.mine = ap (λ v. slice_get (free_references v.state.slots) c.loop-at.at) (sym c.self.view_is) ∙ (sym c.peek.ensures ∙ c.in-Some.is) in (
      c.in_ok-push-in-Some.ensures.ok
          ∙ (ap (λ xs. xs ++ c.in-Some.mine ∷ []) c.loop-at.invariant.0 ∙ next_lowest (free_references c.args.self.now.state.slots) c.loop-at.at c.in-Some.mine found),
      ap (λ xs. length xs) c.in_ok-push-in-Some.ensures.ok ∙ (length-append c.loop-at.lowest (c.in-Some.mine ∷ []) ∙ ap (λ n. n + 1) c.loop-at.invariant.1),
    )

pub returns : goal.returns
returns g c = enough_found c.loop-at.lowest (free_references c.args.self.now.state.slots) c.loop-at.at c.args.count c.loop-at.invariant.0 c.loop-at.invariant.1 (omega (arith, c.loop-at-test.false, c.loop-at.auto.at-end))
