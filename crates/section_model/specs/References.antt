-- The local references of a lane (Q.714, 3.3.2). A slot of the lane is given again once its freeze is over, each time with the next generation, so
-- that what comes late for its former owner isn't heard by its next one. A reference has the generation, the slot, and the number of the lane.
use Rattle.std.specs.Prelude.{◌≡◌, ℕ, ◌+◌, ◌-◌, ◌*◌, ◌/◌, ◌%◌, ◌<◌}
use Rattle.relay_base.specs.declared.limits.TheConstants.{MOST_LANES, REFERENCES, SLOTS}
use Rattle.section_model.specs.declared.limits.TheConstants.{GENERATIONS}

-- the generation of a slot that was taken so many times
abbrev pub generation_after : ℕ → ℕ
generation_after times = times % GENERATIONS

-- the reference of a slot in a generation, in the lane of this number
abbrev pub reference_of_slot : ℕ → ℕ → ℕ → ℕ
reference_of_slot lane generation slot = (generation * (SLOTS + 1) + slot) * MOST_LANES + lane

-- the generation, the slot and the lane's number of a reference
abbrev pub generation_of : ℕ → ℕ
generation_of reference = reference / MOST_LANES / (SLOTS + 1)

abbrev pub slot_of : ℕ → ℕ
slot_of reference = reference / MOST_LANES % (SLOTS + 1)

abbrev pub lane_number_of : ℕ → ℕ
lane_number_of reference = reference % MOST_LANES

-- what a reference was made of is read of it again, and none is all ones
pub record IsReferenceOf (lane generation slot mine : ℕ) : Type 0 where
  pub of_generation : generation_of mine ≡ generation
  pub of_slot : slot_of mine ≡ slot
  pub of_lane : lane_number_of mine ≡ lane
  pub below : mine < REFERENCES - 1

abbrev pub ReferencesAreRead : Type 0
ReferencesAreRead =
    (lane times slot : ℕ) → lane < MOST_LANES → slot < SLOTS + 1
    → IsReferenceOf lane (generation_after times) slot (reference_of_slot lane (generation_after times) slot)
