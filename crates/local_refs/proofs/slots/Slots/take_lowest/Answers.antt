use Rattle.std.specs.Prelude.{IfSome, slice_get, slice_set}
use Rattle.std.proofs.Common.{◌≡◌, ℕ, ◌+◌, ◌-◌, ◌<◌, ◌≤◌, ◌∷◌, List, Some, map, length, subst, ap, ap₂, sym, ◌∙◌, arith}
use Rattle.std.proofs.lemmas.List.{length-set, length-map}
use Rattle.local_refs.specs.declared.state.SlotState.TheVariants.{Held}
use Rattle.relay_base.specs.declared.limits.TheConstants.{MOST_LANES, SLOTS}
use Rattle.section_model.specs.References.{generation_after, slot_of, lane_number_of}
use Rattle.section_model.proofs.References.{slot_read, lane_read}
use Rattle.local_refs.specs.Slots.{generation_at, next_reference, free_references, with_taken, free_from}
use Rattle.local_refs.proofs.Frees.{free_took}
use Rattle.local_refs.proofs.Taking.{others_as_before, or_first, seen_taken}
use Rattle.local_refs.specs.Inner.Swept.{swept, swept_all, AreTaken}
use Rattle.local_refs.proofs.Sweeps.{soonest_held, held_seen}
use Rattle.local_refs.proofs.slots.Slots.take_lowest.Goals as goal

pub invariant_of-self : goal.invariant_of-self
invariant_of-self c =
    let items = c.self.inside.states.items in
    let place = c.in_ok-slot.slot - 1 in (
      length-set items place Held ∙ c.self.invariant.0,
      c.self.invariant.1,
      c.self.invariant.2,
      c.self.invariant.3,
      omega (arith, c.self.invariant.4, soonest_held items place),
      subst (AreTaken c.first_free-self-inside.result) c.deref.ensures.value c.first_free-self-inside.ensures,
      length-set c.self.inside.generations.items place c.next_generation.result ∙ c.self.invariant.6,
    )

pub returns-clause-held : goal.returns-clause-held
returns-clause-held c =
    let slot = c.in_ok-slot.slot in
    let now = c.args.self.now in
    let within = subst (λ found. IfSome found (λ n. (1 ≤ n) × (n ≤ SLOTS))) c.in_ok-slot.ensures.ok_part c.free_slot.ensures.within in
    let lane : now.lane ≡ c.self.inside.lane = ap (λ s. s.lane) (sym c.self.view_is) in
    let in_lanes : now.lane < MOST_LANES = omega (arith, lane, c.self.invariant.1) in
    let same : slot_of c.reference-mine.result ≡ slot = ap slot_of c.reference-mine.ensures ∙ slot_read now.lane (generation_at now slot) slot in_lanes (omega (arith, within.1)) in
    let place : slot - 1 < length c.self.inside.states.items = omega (arith, within.0, within.1, c.self.invariant.0) in (
      ap lane_number_of c.reference-mine.ensures ∙ lane_read now.lane (generation_at now slot) slot in_lanes ∙ lane,
      (
        omega (arith, same, within.0),
        ap (λ n. slice_get (swept_all c.self.inside.passed (slice_set c.self.inside.states.items (slot - 1) Held)) (n - 1)) same
            ∙ held_seen c.self.inside.states.items c.self.inside.passed (slot - 1) place,
      ),
    )

pub returns-clause-rest : goal.returns-clause-rest
returns-clause-rest c =
    let slot = c.in_ok-slot.slot in
    let now = c.args.self.now in
    let within = subst (λ found. IfSome found (λ n. (1 ≤ n) × (n ≤ SLOTS))) c.in_ok-slot.ensures.ok_part c.free_slot.ensures.within in
    let in_lanes : now.lane < MOST_LANES = omega (arith, ap (λ s. s.lane) (sym c.self.view_is), c.self.invariant.1) in
    let same : slot_of c.reference-mine.result ≡ slot = ap slot_of c.reference-mine.ensures ∙ slot_read now.lane (generation_at now slot) slot in_lanes (omega (arith, within.1)) in
    let next = c.next_generation.ensures ∙ ap (λ g. generation_after (g + 1)) (c.index.ensures ∙ sym (or_first c.self.inside.generations.items (slot - 1) c.index.result.now (omega (arith, within.0, within.1, c.self.invariant.6)))) in
    seen_taken c.self.inside.lane c.self.inside.freeze c.self.inside.passed c.self.inside.states.items c.self.inside.generations.items slot c.next_generation.result next
    ∙ ap (λ s. with_taken s slot) c.self.view_is ∙ ap (λ n. with_taken now n) (sym same)

pub returns-clause-lowest : goal.returns-clause-lowest
returns-clause-lowest c =
    let slot = c.in_ok-slot.slot in
    let now = c.args.self.now in
    let within = subst (λ found. IfSome found (λ n. (1 ≤ n) × (n ≤ SLOTS))) c.in_ok-slot.ensures.ok_part c.free_slot.ensures.within in
    let found : slice_get (free_from 1 now.states) 0 ≡ Some slot = sym c.free_slot.ensures.value ∙ c.in_ok-slot.ensures.ok_part in
    let place : slot - 1 < length now.states =
    omega (arith, within.0, within.1, ap (λ s. length s.states) (sym c.self.view_is), length-map c.self.inside.states.items (swept c.self.inside.passed), c.self.invariant.0) in
    let next = c.next_generation.ensures ∙ ap (λ g. generation_after (g + 1)) (c.index.ensures ∙ sym (or_first c.self.inside.generations.items (slot - 1) c.index.result.now (omega (arith, within.0, within.1, c.self.invariant.6)))) in
    ap (map (next_reference now)) (free_took now.states 1 slot found)
    ∙ ap₂ (λ (m : ℕ) (xs : List ℕ). m ∷ xs) (sym c.reference-mine.ensures) (sym (others_as_before now slot place))
    ∙ ap (λ s. c.reference-mine.result ∷ free_references s)
    (sym (seen_taken c.self.inside.lane c.self.inside.freeze c.self.inside.passed c.self.inside.states.items c.self.inside.generations.items slot c.next_generation.result next ∙ ap (λ s. with_taken s slot) c.self.view_is))
