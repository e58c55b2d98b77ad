-- Slots whose freezings are counted from the last sweep over them.
use Rattle.std.specs.Prelude.{◌≡◌, ℕ, ◌-◌, ◌<◌, min, false, List, [], ◌∷◌, map, get_or}
use Rattle.local_refs.specs.Slots.{frozen_for, is_free}
use Rattle.local_refs.specs.declared.state.SlotState.{SlotState}
use Rattle.local_refs.specs.declared.state.SlotState.TheVariants.{Free, Held, Frozen}
use Rattle.local_refs.specs.declared.state.TheConstants.{LONGEST}

-- the state after so many ticks
abbrev pub swept : ℕ → SlotState → SlotState
swept ticks Free = Free
swept ticks Held = Held
swept ticks (Frozen left) = frozen_for (left - ticks)

abbrev pub swept_all : ℕ → List SlotState → List SlotState
swept_all ticks states = map (swept ticks) states

-- the ticks after which a slot becomes free, or the longest
abbrev pub left_of : SlotState → ℕ
left_of Free = LONGEST
left_of Held = LONGEST
left_of (Frozen left) = left

-- the least number of ticks after which one of them becomes free, or the longest
unfoldable pub soonest_in : List SlotState → ℕ
soonest_in [] = LONGEST
soonest_in (state ∷ more) = min (soonest_in more) (left_of state)

-- no slot before this place is free
abbrev pub AreTaken : ℕ → List SlotState → Type 0
AreTaken first states = (place : ℕ) → place < first → is_free (get_or states place Held) ≡ false
