use Rattle.std.proofs.Common.{[], ◌∷◌, IfSome, length, sym, subst, ap, ◌∙◌, arith, length-append, slice_index_or, drop}
use Rattle.std.proofs.lemmas.List.{nil_from_length}
use Rattle.std.specs.Fn.{FnReturnsAt}
use Rattle.block_threads.specs.Items.{Beside}
use Rattle.block_threads.specs.Inner.Shares.{AreCells}
use Rattle.block_threads.proofs.EachLemmas.{beside_first, beside_more, beside_none, beside_end, goes_on-next, goes_on-end}
use Rattle.block_threads.proofs.each.in_order.Goals as goal

pub unreachable-requires : goal.unreachable-requires
unreachable-requires g c =
    let gives = FnReturnsAt g.F.Fn c.args.f.now in
    let cells = subst (AreCells gives c.loop-cell.rest.now) c.in-Some.ensures.steps.0 c.loop-cell.invariant.cells in
    let (first, rest, parted, here, behind) = beside_first (λ item cell. IfSome cell (gives item)) c.loop-cell.rest.now c.in-Some.cell c.next.new.self.rest.items cells in
    absurd (omega (arith, ap length parted, c.in_default.ensures.cases))

pub found-x-requires-clause-cell : goal.found-x-requires-clause-cell
found-x-requires-clause-cell g c =
    let gives = FnReturnsAt g.F.Fn c.args.f.now in
    let cells = subst (AreCells gives c.loop-cell.rest.now) c.in-Some.ensures.steps.0 c.loop-cell.invariant.cells in
    let (first, rest, parted, here, behind) = beside_first (λ item cell. IfSome cell (gives item)) c.loop-cell.rest.now c.in-Some.cell c.next.new.self.rest.items cells in
    let same = sym parted ∙ c.in-Some-split_first.ensures.cases.0 in
    subst (λ item. IfSome c.in-Some.cell (gives item)) (ap (λ l. slice_index_or l 0 first) same) here

pub loop-cell-preserved : goal.loop-cell-preserved
loop-cell-preserved g c =
    let gives = FnReturnsAt g.F.Fn c.args.f.now in
    let old = c.loop-cell in
    let item = c.in-Some-split_first.item.now in
    let left = c.in-Some-split_first.behind.now in
    let x = c.found-x.result in
    let cells = subst (AreCells gives old.rest.now) c.in-Some.ensures.steps.0 old.invariant.cells in
    let (first, rest, parted, here, behind) = beside_first (λ item cell. IfSome cell (gives item)) old.rest.now c.in-Some.cell c.next.new.self.rest.items cells in
    let same = sym parted ∙ c.in-Some-split_first.ensures.cases.0 in
    let items = c.push_reserved.ensures.items in
    record {
      so_far = goes_on-next (Beside gives c.args.items.now) (Beside gives old.rest.now) (Beside gives left) old.all.items c.push_reserved.new.self.items x items old.invariant.so_far
          (λ more m. beside_more gives old.rest.now item left x more c.in-Some-split_first.ensures.cases.0 c.found-x.ensures m);
      cells = subst (λ l. AreCells gives l c.next.new.self.rest.items) (ap (λ l. drop 1 l) same) behind;
      room = omega (arith, ap length items, length-append old.all.items (x ∷ []), ap length c.in-Some.ensures.steps.0, old.invariant.room, c.push_reserved.ensures.capacity);
    }

pub returns : goal.returns
returns g c =
    let gives = FnReturnsAt g.F.Fn c.args.f.now in
    let none = nil_from_length c.loop-cell.cell-iterator.rest.items (omega (arith, c.loop-cell.cell-iterator.rest.ok, c.in-None.ensures.steps)) in
    let left = beside_end (λ item cell. IfSome cell (gives item)) c.loop-cell.rest.now (subst (AreCells gives c.loop-cell.rest.now) none c.loop-cell.invariant.cells) in
    goes_on-end (Beside gives c.args.items.now) (Beside gives c.loop-cell.rest.now) c.loop-cell.all.items c.loop-cell.invariant.so_far (beside_none gives c.loop-cell.rest.now left)
