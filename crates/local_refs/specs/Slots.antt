-- The slots of a lane's local references (Q.714, 3.3.2): the lane numbers them from 1, and its number is in each reference, as is the generation
-- of the slot, which is another one each time that the slot is taken.
use Rattle.std.specs.Prelude.{◌≡◌, ℕ, ◌+◌, ◌-◌, ◌≤◌, zero, suc, Bool, true, false, List, [], ◌∷◌, map, get_or, Some, slice_get, slice_set, if◌then◌else◌}
use Rattle.section_model.specs.References.{generation_after, reference_of_slot, slot_of, lane_number_of}
use Rattle.local_refs.specs.declared.state.SlotState.{SlotState}
use Rattle.local_refs.specs.declared.state.SlotState.TheVariants.{Free, Held, Frozen}

-- The number of a lane, the ticks for which a slot is frozen once it is given up, and from slot 1 on what each slot is, and the generation that
-- it has when it is taken next.
pub record LaneSlots : Type 0 where
  pub lane : ℕ
  pub freeze : ℕ
  pub states : List SlotState
  pub generations : List ℕ

abbrev pub is_free : SlotState → Bool
is_free Free = true
is_free Held = false
is_free (Frozen left) = false

-- the free slots by rising number, of these that begin with this slot
unfoldable pub free_from : ℕ → List SlotState → List ℕ
free_from slot [] = []
free_from slot (state ∷ more) = if is_free state then slot ∷ free_from (slot + 1) more else free_from (slot + 1) more

abbrev pub generation_at : LaneSlots → ℕ → ℕ
generation_at slots slot = get_or slots.generations (slot - 1) 0

-- the reference that a slot has when it is taken next
abbrev pub next_reference : LaneSlots → ℕ → ℕ
next_reference slots slot = reference_of_slot slots.lane (generation_at slots slot) slot

-- the references of the free slots by rising number
abbrev pub free_references : LaneSlots → List ℕ
free_references slots = map (next_reference slots) (free_from 1 slots.states)

-- the slot of this number is in this state
abbrev pub IsIn : LaneSlots → ℕ → SlotState → Type 0
IsIn slots slot state = (1 ≤ slot) × (slice_get slots.states (slot - 1) ≡ Some state)

-- a reference of this lane whose slot is held
abbrev pub IsHeld : LaneSlots → ℕ → Type 0
IsHeld slots mine = (lane_number_of mine ≡ slots.lane) × IsIn slots (slot_of mine) Held

-- this slot comes into this state, and no other changes
abbrev pub with_state : LaneSlots → ℕ → SlotState → LaneSlots
with_state slots slot state = record slots { states = slice_set slots.states (slot - 1) state }

-- this slot is taken: it is held, and the next generation is that after this one
abbrev pub with_taken : LaneSlots → ℕ → LaneSlots
with_taken slots slot = record slots {
  states = slice_set slots.states (slot - 1) Held;
  generations = slice_set slots.generations (slot - 1) (generation_after (generation_at slots slot + 1));
}

-- a slot with so many ticks left of its freezing: with none left it is free
unfoldable pub frozen_for : ℕ → SlotState
frozen_for zero = Free
frozen_for (suc left) = Frozen (suc left)

-- a tick lowers what is left of a freezing
abbrev pub lowered : SlotState → SlotState
lowered Free = Free
lowered Held = Held
lowered (Frozen left) = frozen_for (left - 1)

abbrev pub after_tick : LaneSlots → LaneSlots
after_tick slots = record slots { states = map lowered slots.states }
