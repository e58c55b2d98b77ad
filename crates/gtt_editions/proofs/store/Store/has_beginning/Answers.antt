use Rattle.std.proofs.Common.{sym, ◌∙◌}
use Rattle.gtt_editions.proofs.SameChanges.{begins_by}
use Rattle.gtt_editions.proofs.store.Store.has_beginning.Goals as goal

pub returns : goal.returns
returns c truth =
    let front = begins_by c.as_slice.result.now c.as_slice-2.result.now (sym c.starts_with.ensures.value ∙ truth) in
    (front.0, rw (← c.as_slice.ensures.value, ← c.as_slice-2.ensures.value) front.1)
