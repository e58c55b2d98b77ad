-- What a slot that is taken leaves of the others.
use Rattle.std.proofs.Common.{◌≡◌, ℕ, suc, ◌+◌, ◌-◌, ◌<◌, Bool, true, false, cond, List, [], ◌∷◌, length, map, get_or, refl, subst, ap, ap₂, ◌∙◌, arith}
use Rattle.std.specs.Prelude.{slice_set}
use Rattle.std.proofs.lemmas.List.{get_or-set_same, get_or-set_other, map-set}
use Rattle.std.proofs.lemmas.Bool.{both_ways}
use Rattle.std.proofs.lemmas.Option.{slice_get-get_or, get_or_from_slice_get}
use Rattle.section_model.specs.References.{generation_after, reference_of_slot}
use Rattle.local_refs.specs.declared.state.SlotState.{SlotState}
use Rattle.local_refs.specs.declared.state.SlotState.TheVariants.{Held}
use Rattle.local_refs.specs.Inner.Swept.{swept, swept_all}
use Rattle.local_refs.specs.Slots.{LaneSlots, is_free, free_from, generation_at, next_reference, with_taken}

-- functions that agree on the free slots
pub free_mapped : (f g : ℕ → ℕ) (states : List SlotState) (slot : ℕ) → ((place : ℕ) → is_free (get_or states place Held) ≡ true → f (slot + place) ≡ g (slot + place))
    → map f (free_from slot states) ≡ map g (free_from slot states)
unfolding free_from
free_mapped f g [] slot same = refl
free_mapped f g (state ∷ more) slot same =
    by_test (is_free state) refl
    (free_mapped f g more (slot + 1) (λ place free. let next : slot + suc place ≡ slot + 1 + place = omega arith in subst (λ n. f n ≡ g n) next (same (suc place) free)))
  where
    by_test : (b : Bool) → is_free state ≡ b → map f (free_from (slot + 1) more) ≡ map g (free_from (slot + 1) more)
        → map f (cond b (slot ∷ free_from (slot + 1) more) (free_from (slot + 1) more)) ≡ map g (cond b (slot ∷ free_from (slot + 1) more) (free_from (slot + 1) more))
    by_test true free rest = let here : slot + 0 ≡ slot = omega arith in ap₂ (λ x xs. x ∷ xs) (subst (λ n. f n ≡ g n) here (same 0 free)) rest
    by_test false free rest = rest

-- the references of the slots that are free yet are as before
pub others_as_before : (slots : LaneSlots) (slot : ℕ) → slot - 1 < length slots.states
    → map (next_reference (with_taken slots slot)) (free_from 1 (slice_set slots.states (slot - 1) Held)) ≡ map (next_reference slots) (free_from 1 (slice_set slots.states (slot - 1) Held))
others_as_before slots slot within =
    free_mapped (next_reference (with_taken slots slot)) (next_reference slots) (slice_set slots.states (slot - 1) Held) 1
    (λ place free.
    ap (λ g. reference_of_slot slots.lane g (1 + place))
    (get_or-set_other slots.generations (slot - 1) (1 + place - 1) (generation_after (generation_at slots slot + 1)) 0
    (λ e. let same : place ≡ slot - 1 = omega (arith, e) in
    both_ways (is_free (get_or (slice_set slots.states (slot - 1) Held) place Held))
    (ap (λ n. is_free (get_or (slice_set slots.states (slot - 1) Held) n Held)) same ∙ ap is_free (get_or-set_same slots.states (slot - 1) Held Held within))
    free)))

pub or_first : (generations : List ℕ) (place other : ℕ) → place < length generations → get_or generations place 0 ≡ get_or generations place other
or_first generations place other within =
    get_or_from_slice_get generations place (get_or generations place other) 0 (slice_get-get_or generations place other within)

-- a slot that is taken, as it is seen after some ticks
pub seen_taken : (lane freeze passed : ℕ) (states : List SlotState) (generations : List ℕ) (slot next : ℕ) → next ≡ generation_after (get_or generations (slot - 1) 0 + 1)
    → record { lane = lane; freeze = freeze; states = swept_all passed (slice_set states (slot - 1) Held); generations = slice_set generations (slot - 1) next }
    ≡ with_taken (record { lane = lane; freeze = freeze; states = swept_all passed states; generations = generations }) slot
seen_taken lane freeze passed states generations slot next is =
    ap₂ (λ xs g. record { lane = lane; freeze = freeze; states = xs; generations = slice_set generations (slot - 1) g })
    (map-set (swept passed) states (slot - 1) Held) is
