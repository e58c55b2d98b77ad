use Rattle.std.proofs.Common.{rules, ◌≡◌, ◌∙◌, ℕ, ◌+◌, List, IfOk, ap, subst, arith, length, sum}
use Rattle.control_replay.specs.Inner.Counts.{editions_in}
use Rattle.control_replay.proofs.TableLemmas.{AreCounts, AreSums, sum_few, table_is}
use Rattle.control_replay.proofs.table.editions_by_phase.Goals as goal

pub sums_before-requires : goal.sums_before-requires
sums_before-requires c =
    let counts = c.in_ok-counts.counts.items in
    let size = c.in_ok-counts.ensures.size in
    let are : AreCounts c.args.control.now counts = λ phase lt. c.in_ok-counts.ensures.each phase (omega (arith, size, lt)) ∙ ap (editions_in phase) c.as_slice.ensures in
    let few = sum_few c.args.control.now counts are in
    let same = ap (λ (l : List ℕ). sum l) c.deref.ensures.value in
    omega (arith, few, same, c.requires)

pub returns : goal.returns
returns c =
    let counts = c.in_ok-counts.counts.items in
    let size = c.in_ok-counts.ensures.size in
    let are : AreCounts c.args.control.now counts = λ phase lt. c.in_ok-counts.ensures.each phase (omega (arith, size, lt)) ∙ ap (editions_in phase) c.as_slice.ensures in
    let count : c.in_ok-count.count ≡ c.args.phases + 1 = search rules in
    let same = c.deref.ensures.value in
    table_is (λ v. v.items) c.args.phases c.args.control.now counts c.sums_before.result (size ∙ count) are
    (subst (λ l. IfOk c.sums_before.result (λ v. length v.items ≡ length l + 1)) same c.sums_before.ensures.size)
    (subst (λ l. IfOk c.sums_before.result (λ v. AreSums l v.items)) same c.sums_before.ensures.each)
