use Rattle.std.proofs.Common.{◌+◌, ◌-◌, length, refl, ap, ap₂, ◌∙◌, sym, arith}
use Rattle.std.specs.Prelude.{slice_set}
use Rattle.std.proofs.lemmas.List.{length-set, length-map}
use Rattle.local_refs.specs.declared.state.SlotState.TheVariants.{Free, Frozen}
use Rattle.section_model.specs.References.{slot_of}
use Rattle.local_refs.specs.Slots.{with_state, frozen_for}
use Rattle.local_refs.specs.Inner.Swept.{swept, swept_all}
use Rattle.local_refs.proofs.Sweeps.{soonest_frozen, soonest_freed, frozen_now, free_now}
use Rattle.local_refs.proofs.Firsts.{taken_set, taken_freed}
use Rattle.local_refs.proofs.slots.Slots.freeze.Goals as goal

pub index_mut-requires-else-self-eq0 : goal.index_mut-requires-else-self-eq0
index_mut-requires-else-self-eq0 c =
    omega (arith, c.place-place.ensures.within, ap (λ s. length s.states) (sym c.self.view_is), length-map c.self.inside.states.items (swept c.self.inside.passed), c.self.inside.states.ok)

pub invariant_of-self : goal.invariant_of-self
invariant_of-self c =
    let i = c.place-place.result in (
      length-set c.self.inside.states.items i Free ∙ c.self.invariant.0,
      c.self.invariant.1,
      c.self.invariant.2,
      c.self.invariant.3,
      omega (arith, c.self.invariant.4, soonest_freed c.self.inside.states.items i),
      taken_freed c.self.inside.states.items c.self.inside.first i c.min-self-inside.result Free (omega (arith, c.min-self-inside.ensures)) (omega (arith, c.min-self-inside.ensures)) c.self.invariant.5,
      c.self.invariant.6,
    )

pub invariant_of-self-else-self-eq0 : goal.invariant_of-self-else-self-eq0
invariant_of-self-else-self-eq0 c =
    let i = c.place-place.result in
    let until = c.self.inside.passed + c.from.result in (
      length-set c.self.inside.states.items i (Frozen until) ∙ c.self.invariant.0,
      c.self.invariant.1,
      omega (arith, c.min-self-inside-else-self-eq0.ensures, c.from.ensures, c.if-self-eq0.false, c.self.invariant.2),
      omega (arith, c.min-self-inside-else-self-eq0.ensures, c.self.invariant.3),
      omega (arith, c.min-self-inside-else-self-eq0.ensures, c.self.invariant.4, soonest_frozen c.self.inside.states.items i until),
      taken_set c.self.inside.states.items c.self.inside.first i (Frozen until) refl c.self.invariant.5,
      c.self.invariant.6,
    )

pub returns-then-self-eq0 : goal.returns-then-self-eq0
returns-then-self-eq0 c =
    ap (λ i. record { lane = c.self.inside.lane; freeze = c.self.inside.freeze; states = swept_all c.self.inside.passed (slice_set c.self.inside.states.items i Free); generations = c.self.inside.generations.items }) c.place-place.ensures.value
    ∙ ap (λ xs. record { lane = c.self.inside.lane; freeze = c.self.inside.freeze; states = xs; generations = c.self.inside.generations.items }) (free_now c.self.inside.states.items (slot_of c.args.mine - 1) c.self.inside.passed c.self.inside.freeze c.if-self-eq0.true)
    ∙ ap (λ s. with_state s (slot_of c.args.mine) (frozen_for s.freeze)) c.self.view_is

pub returns-else-self-eq0 : goal.returns-else-self-eq0
returns-else-self-eq0 c =
    let passed = c.self.inside.passed in
    ap₂ (λ i left. record { lane = c.self.inside.lane; freeze = c.self.inside.freeze; states = swept_all passed (slice_set c.self.inside.states.items i (Frozen (passed + left))); generations = c.self.inside.generations.items }) c.place-place.ensures.value c.from.ensures
    ∙ ap (λ xs. record { lane = c.self.inside.lane; freeze = c.self.inside.freeze; states = xs; generations = c.self.inside.generations.items }) (frozen_now c.self.inside.states.items (slot_of c.args.mine - 1) passed c.self.inside.freeze)
    ∙ ap (λ s. with_state s (slot_of c.args.mine) (frozen_for s.freeze)) c.self.view_is
