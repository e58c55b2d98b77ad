use Rattle.std.proofs.Common.{◌∙◌, ◌<◌, ℕ, List, length, get_or, take, ap, sym, subst, arith}
use Rattle.control_replay.specs.Inner.Counts.{editions_in, count_more}
use Rattle.control_replay.proofs.TableLemmas.{taken_back, count_next}
use Rattle.control_replay.proofs.table.editions_in_phases.Goals as goal

pub loop-entry-preserved : goal.loop-entry-preserved
loop-entry-preserved c =
    let new = c.count_edition.new.counts in
    let entry = c.entry-item.result in
    let control = c.args.control.now in
    let i = c.loop-entry.entry-index in
    let same = c.count_edition.ensures.size ∙ c.deref_mut.ensures.len in
    let back = taken_back c.loop-entry.counts.len new c.loop-entry.counts.items same in
    let was = c.deref_mut.ensures.value in
    record {
      size = ap length back ∙ c.count_edition.ensures.size ∙ ap (λ (l : List ℕ). length l) was ∙ c.loop-entry.invariant.size;
      each = λ phase lt.
          ap (λ l. get_or l phase 0) back
          ∙ c.count_edition.ensures.each phase (subst (λ (l : List ℕ). phase < length l) (sym was) (omega (arith, lt, c.loop-entry.invariant.size)))
          ∙ ap (λ l. count_more (get_or l phase 0) phase entry) was
          ∙ ap (λ n. count_more n phase entry) (c.loop-entry.invariant.each phase lt)
          ∙ ap (count_more (editions_in phase (take i control)) phase) c.entry-item.is
          ∙ sym (count_next phase control i entry c.loop-entry-test.true);
    }
