-- The free slots, as a walk over all finds them.
use Rattle.std.proofs.Common.{◌≡◌, ℕ, zero, suc, ◌+◌, ◌-◌, ◌<◌, ◌≤◌, ◌≢◌, Bool, true, false, cond, Some, List, [], ◌∷◌, length, drop, get_or, refl, sym, ap, ◌∙◌, arith}
use Rattle.std.specs.Prelude.{slice_get, slice_set}
use Rattle.std.proofs.lemmas.List.{drop_more}
use Rattle.std.proofs.lemmas.Option.{same_Some}
use Rattle.local_refs.specs.declared.state.SlotState.{SlotState}
use Rattle.local_refs.specs.declared.state.SlotState.TheVariants.{Free, Held, Frozen}
use Rattle.local_refs.specs.Slots.{is_free, free_from}
use Rattle.local_refs.specs.Inner.Swept.{swept_all, soonest_in}
use Rattle.local_refs.proofs.Sweeps.{frozen_for_some, soonest_bound}

same_free : (states : List SlotState) (slot ticks : ℕ) → ticks < soonest_in states → free_from slot (swept_all ticks states) ≡ free_from slot states
unfolding free_from soonest_in
same_free [] slot ticks early = refl
same_free (Free ∷ more) slot ticks early = ap (λ xs. slot ∷ xs) (same_free more (slot + 1) ticks (omega (arith, early, soonest_bound more)))
same_free (Held ∷ more) slot ticks early = same_free more (slot + 1) ticks (omega (arith, early))
same_free (Frozen left ∷ more) slot ticks early =
    let some : 0 < left - ticks = omega (arith, early) in
    ap (λ x. cond (is_free x) (slot ∷ free_from (slot + 1) (swept_all ticks more)) (free_from (slot + 1) (swept_all ticks more))) (frozen_for_some (left - ticks) some)
    ∙ same_free more (slot + 1) ticks (omega (arith, early))

-- before the next sweep is due, the slots are free that were so at the last one
pub seen_free : (states walked seen : List SlotState) (passed soonest : ℕ) → swept_all passed states ≡ seen → walked ≡ states → passed < soonest → soonest ≤ soonest_in states
    → free_from 1 walked ≡ free_from 1 seen
seen_free states walked seen passed soonest same all early bound =
    ap (free_from 1) all ∙ sym (same_free states 1 passed (omega (arith, early, bound))) ∙ ap (free_from 1) same

free_step : (states : List SlotState) (slot i : ℕ) (other : SlotState) → i < length states
    → free_from slot (drop i states) ≡ cond (is_free (get_or states i other)) (slot ∷ free_from (slot + 1) (drop (i + 1) states)) (free_from (slot + 1) (drop (i + 1) states))
unfolding free_from
free_step states slot i other within = ap (free_from slot) (drop_more states i other within)

-- the walk meets a slot that is free
pub free_here : (states : List SlotState) (slot i : ℕ) (other : SlotState) → i < length states → is_free (get_or states i other) ≡ true
    → free_from slot (drop i states) ≡ slot ∷ free_from (slot + 1) (drop (i + 1) states)
free_here states slot i other within free =
    free_step states slot i other within ∙ ap (λ b. cond b (slot ∷ free_from (slot + 1) (drop (i + 1) states)) (free_from (slot + 1) (drop (i + 1) states))) free

-- the walk meets a slot that isn't
pub free_past : (states : List SlotState) (slot i : ℕ) (other : SlotState) → i < length states → is_free (get_or states i other) ≡ false
    → free_from slot (drop i states) ≡ free_from (slot + 1) (drop (i + 1) states)
free_past states slot i other within taken =
    free_step states slot i other within ∙ ap (λ b. cond b (slot ∷ free_from (slot + 1) (drop (i + 1) states)) (free_from (slot + 1) (drop (i + 1) states))) taken

-- the walk is over
pub free_none : (states : List SlotState) (slot i : ℕ) → length states ≤ i → free_from slot (drop i states) ≡ []
unfolding free_from
free_none [] slot zero past = refl
free_none [] slot (suc i) past = refl
free_none (state ∷ more) slot zero past = absurd (omega (arith, past))
free_none (state ∷ more) slot (suc i) past = free_none more slot i (omega (arith, past))

-- the free slots of these are none before the first of them
free_after : (states : List SlotState) (slot lowest : ℕ) → slice_get (free_from slot states) 0 ≡ Some lowest → slot ≤ lowest
unfolding free_from
free_after [] slot lowest is = absurd (cc)
free_after (state ∷ more) slot lowest is = by_test (is_free state) is (free_after more (slot + 1) lowest)
  where
    by_test : (b : Bool) → slice_get (cond b (slot ∷ free_from (slot + 1) more) (free_from (slot + 1) more)) 0 ≡ Some lowest
        → (slice_get (free_from (slot + 1) more) 0 ≡ Some lowest → slot + 1 ≤ lowest) → slot ≤ lowest
    by_test true found later = omega (arith, same_Some slot lowest found)
    by_test false found later = omega (arith, later found)

pub later_one : (slot : ℕ) (more : List ℕ) (n : ℕ) → n ≢ 0 → slice_get (slot ∷ more) n ≡ slice_get more (n - 1)
later_one slot more zero some = absurd (some refl)
later_one slot more (suc n) some = let before : n ≡ suc n - 1 = omega arith in ap (slice_get more) before

-- once the lowest free slot is held, the others are left
pub free_took : (states : List SlotState) (slot lowest : ℕ) → slice_get (free_from slot states) 0 ≡ Some lowest
    → free_from slot states ≡ lowest ∷ free_from slot (slice_set states (lowest - slot) Held)
unfolding free_from
free_took [] slot lowest is = absurd (cc)
free_took (state ∷ more) slot lowest is = by_test (is_free state) refl is (free_took more (slot + 1) lowest)
  where
    by_test : (b : Bool) → is_free state ≡ b → slice_get (cond b (slot ∷ free_from (slot + 1) more) (free_from (slot + 1) more)) 0 ≡ Some lowest
        → (slice_get (free_from (slot + 1) more) 0 ≡ Some lowest → free_from (slot + 1) more ≡ lowest ∷ free_from (slot + 1) (slice_set more (lowest - (slot + 1)) Held))
        → cond b (slot ∷ free_from (slot + 1) more) (free_from (slot + 1) more) ≡ lowest ∷ free_from slot (slice_set (state ∷ more) (lowest - slot) Held)
    by_test true free found later =
        let same : slot ≡ lowest = same_Some slot lowest found in
        let none : lowest - slot ≡ 0 = omega (arith, same) in
        rw (none, same) refl
    by_test false taken found later =
        let past : slot + 1 ≤ lowest = free_after more (slot + 1) lowest found in
        let next : lowest - slot ≡ suc (lowest - (slot + 1)) = omega (arith, past) in
        later found ∙ rw (next, taken) refl
