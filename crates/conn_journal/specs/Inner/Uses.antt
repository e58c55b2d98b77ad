-- What the openings of a lane make of a slot (Q.714, 3.3.2): an end has it, or it is frozen for some ticks after its use, or it is free.
use Rattle.std.specs.Prelude.{◌≡◌, ℕ, ◌+◌, ◌<◌, ◌≤◌, if◌then◌else◌, List, [], ◌∷◌, length, get_or, slice_get, Option, Some, None}
use Rattle.relay_base.specs.declared.limits.TheConstants.{SLOTS}
use Rattle.local_refs.specs.Slots.{LaneSlots, frozen_for, generation_at}
use Rattle.local_refs.specs.declared.state.SlotState.{SlotState}
use Rattle.local_refs.specs.declared.state.SlotState.TheVariants.{Free, Held}
use Rattle.section_model.specs.References.{generation_after}
use Rattle.conn_journal.specs.Inner.Remnants.{Seat, Remnant, sits}

-- the number of the opening that uses a slot, and the ticks for which it is frozen yet, once the end is gone
pub record Use : Type 0 where
  pub number : ℕ
  pub left : Option ℕ

abbrev pub use_by : ℕ → ℕ → Option Seat → Option Use
use_by number slot None = None
use_by number slot (Some s) = if sits slot (Some s) then Some (record { number = number; left = s.left }) else None

abbrev pub first_use : Option Use → Option Use → Option Use
first_use None later = later
first_use (Some u) later = Some u

abbrev pub use_at : ℕ → ℕ → Remnant → Option Use
use_at number slot k = first_use (use_by number slot k.this) (use_by number slot k.that)

-- by the first of these openings that uses it, which are numbered from this number on
unfoldable pub use_from : ℕ → ℕ → List Remnant → Option Use
use_from number slot [] = None
use_from number slot (k ∷ keeps) = first_use (use_at number slot k) (use_from (number + 1) slot keeps)

abbrev pub use_of : List Remnant → ℕ → Option Use
use_of keeps slot = use_from 0 slot keeps

-- what the slot is
abbrev pub state_left : Option ℕ → SlotState
state_left None = Held
state_left (Some left) = frozen_for left

abbrev pub state_of : Option Use → SlotState
state_of None = Free
state_of (Some u) = state_left u.left

-- the number of the opening an end of which has it, and isn't gone
abbrev pub owner_left : ℕ → Option ℕ → Option ℕ
owner_left number None = Some number
owner_left number (Some left) = None

abbrev pub owner_of : Option Use → Option ℕ
owner_of None = None
owner_of (Some u) = owner_left u.number u.left

abbrev pub owner_at : List (Option ℕ) → ℕ → Option ℕ
owner_at owners slot = get_or owners slot None

-- the slots are in the states that their uses make, and the index has the ends that have a slot
pub record AreUsed (uses : ℕ → Option Use) (slots : LaneSlots) (index : List (Option ℕ)) : Type 0 where
  pub count : length slots.states ≡ SLOTS
  pub states : (place : ℕ) → place < SLOTS → slice_get slots.states place ≡ Some (state_of (uses (place + 1)))
  pub many : length index ≡ SLOTS + 1
  pub owners : (slot : ℕ) → slot < SLOTS + 1 → owner_at index slot ≡ owner_of (uses slot)

-- each slot has the generation that it has when it is taken next, where it was taken so many times
pub record AreCounted (times : ℕ → ℕ) (slots : LaneSlots) : Type 0 where
  pub count : length slots.generations ≡ SLOTS
  pub each : (slot : ℕ) → 1 ≤ slot → slot < SLOTS + 1 → generation_at slots slot ≡ generation_after (times slot)
