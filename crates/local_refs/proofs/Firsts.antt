-- A place before which no slot is free.
use Rattle.std.proofs.Common.{◌≡◌, ℕ, zero, suc, ◌+◌, ◌≤◌, false, List, [], ◌∷◌, drop, get_or, refl, ap, ◌∙◌, arith, cond}
use Rattle.std.specs.Prelude.{slice_set}
use Rattle.std.proofs.lemmas.List.{get_or-set_other}
use Rattle.local_refs.specs.declared.state.SlotState.{SlotState}
use Rattle.local_refs.specs.declared.state.SlotState.TheVariants.{Held}
use Rattle.local_refs.specs.Slots.{is_free, free_from}
use Rattle.local_refs.specs.Inner.Swept.{AreTaken}

pub taken_none : (states : List SlotState) → AreTaken 0 states
taken_none states place less = absurd (omega (arith, less))

-- one more that isn't free
pub taken_more : (states : List SlotState) (first : ℕ) → AreTaken first states → is_free (get_or states first Held) ≡ false → AreTaken (first + 1) states
taken_more [] first before here place less = refl
taken_more (state ∷ more) zero before here zero less = here
taken_more (state ∷ more) zero before here (suc place) less = absurd (omega (arith, less))
taken_more (state ∷ more) (suc first) before here zero less = before zero (omega arith)
taken_more (state ∷ more) (suc first) before here (suc place) less =
    taken_more more first (λ at under. before (suc at) (omega (arith, under))) here place (omega (arith, less))

-- a slot that comes into a state that isn't free
set_taken : (states : List SlotState) (i place : ℕ) (state : SlotState) → is_free state ≡ false → is_free (get_or states place Held) ≡ false
    → is_free (get_or (slice_set states i state) place Held) ≡ false
set_taken [] i place state taken before = refl
set_taken (one ∷ more) zero zero state taken before = taken
set_taken (one ∷ more) zero (suc place) state taken before = before
set_taken (one ∷ more) (suc i) zero state taken before = before
set_taken (one ∷ more) (suc i) (suc place) state taken before = set_taken more i place state taken before

pub taken_set : (states : List SlotState) (first i : ℕ) (state : SlotState) → is_free state ≡ false → AreTaken first states → AreTaken first (slice_set states i state)
taken_set states first i state taken before place less = set_taken states i place state taken (before place less)

-- a walk may begin there
pub taken_passed : (states : List SlotState) (slot first : ℕ) → AreTaken first states → free_from slot states ≡ free_from (slot + first) (drop first states)
unfolding free_from
taken_passed states slot zero before = let same : slot ≡ slot + 0 = omega arith in ap (λ n. free_from n states) same
taken_passed [] slot (suc first) before = refl
taken_passed (state ∷ more) slot (suc first) before =
    let next : (slot + 1) + first ≡ slot + suc first = omega arith in
    ap (λ b. cond b (slot ∷ free_from (slot + 1) more) (free_from (slot + 1) more)) (before zero (omega arith))
    ∙ taken_passed more (slot + 1) first (λ at under. before (suc at) (omega (arith, under)))
    ∙ ap (λ n. free_from n (drop first more)) next

-- a slot before which there may be none that is free
pub taken_freed : (states : List SlotState) (first i bound : ℕ) (state : SlotState) → bound ≤ first → bound ≤ i → AreTaken first states → AreTaken bound (slice_set states i state)
taken_freed states first i bound state below past before place less =
    ap is_free (get_or-set_other states i place state Held (λ e. omega (arith, past, less, e))) ∙ before place (omega (arith, below, less))
