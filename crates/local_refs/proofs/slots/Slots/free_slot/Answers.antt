use Rattle.std.proofs.Common.{ap, ◌∙◌}
use Rattle.std.specs.Prelude.{slice_get}
use Rattle.local_refs.proofs.Frees.{seen_free}
use Rattle.local_refs.proofs.slots.Slots.free_slot.Goals as goal

pub returns-clause-value : goal.returns-clause-value
returns-clause-value c =
    c.free_slot.ensures.value
    ∙ ap (λ xs. slice_get xs c.args.at)
    (seen_free c.self.inside.states.items c.deref.result.now c.args.self.now.states c.self.inside.passed c.self.inside.soonest (ap (λ s. s.states) c.self.view_is) c.deref.ensures.value c.self.invariant.2 c.self.invariant.4)
