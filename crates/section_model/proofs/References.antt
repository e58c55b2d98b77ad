-- What is read of a local reference.
use Rattle.std.proofs.Common.{◌≡◌, ℕ, ◌+◌, ◌-◌, ◌*◌, ◌/◌, ◌%◌, ◌<◌, sym, ap, ◌∙◌, arith}
use Rattle.std.proofs.Math.Nat.{mod-add-div', add-mul-mod_self_right}
use Rattle.std.proofs.lemmas.Nat.{div-mul-add, mod-mul-add, mod_below}
use Rattle.relay_base.specs.declared.limits.TheConstants.{MOST_LANES, REFERENCES, SLOTS}
use Rattle.section_model.specs.declared.limits.TheConstants.{GENERATIONS}
use Rattle.section_model.specs.References.{generation_after, reference_of_slot, generation_of, slot_of, lane_number_of, ReferencesAreRead}

pub slot_read : (lane generation slot : ℕ) → lane < MOST_LANES → slot < SLOTS + 1 → slot_of (reference_of_slot lane generation slot) ≡ slot
slot_read lane generation slot within below =
    ap (λ n. n % (SLOTS + 1)) (div-mul-add (generation * (SLOTS + 1) + slot) MOST_LANES lane within) ∙ mod-mul-add generation (SLOTS + 1) slot below

pub generation_read : (lane generation slot : ℕ) → lane < MOST_LANES → slot < SLOTS + 1 → generation_of (reference_of_slot lane generation slot) ≡ generation
generation_read lane generation slot within below =
    ap (λ n. n / (SLOTS + 1)) (div-mul-add (generation * (SLOTS + 1) + slot) MOST_LANES lane within) ∙ div-mul-add generation (SLOTS + 1) slot below

pub lane_read : (lane generation slot : ℕ) → lane < MOST_LANES → lane_number_of (reference_of_slot lane generation slot) ≡ lane
lane_read lane generation slot within = mod-mul-add (generation * (SLOTS + 1) + slot) MOST_LANES lane within

pub generation_below : (times : ℕ) → generation_after times < GENERATIONS
generation_below times = mod_below times GENERATIONS (omega arith)

pub slot_below : (reference : ℕ) → slot_of reference < SLOTS + 1
slot_below reference = mod_below (reference / MOST_LANES) (SLOTS + 1) (omega arith)

-- a reference of a generation is below the greatest number
pub reference_below : (lane generation slot : ℕ) → lane < MOST_LANES → generation < GENERATIONS → slot < SLOTS + 1 → reference_of_slot lane generation slot < REFERENCES - 1
reference_below lane generation slot within some below = omega (arith, within, some, below)

-- the generation after one is that after one time more
pub once_more : (times : ℕ) → generation_after (generation_after times + 1) ≡ generation_after (times + 1)
once_more times =
    let all : generation_after times + 1 + times / GENERATIONS * GENERATIONS ≡ times + 1 = omega (arith, mod-add-div' times GENERATIONS) in
    sym (add-mul-mod_self_right (generation_after times + 1) (times / GENERATIONS) GENERATIONS) ∙ ap generation_after all

pub references_are_read : ReferencesAreRead
references_are_read lane times slot within below =
    let generation = generation_after times in
    record {
      of_generation = generation_read lane generation slot within below;
      of_slot = slot_read lane generation slot within below;
      of_lane = lane_read lane generation slot within;
      below = reference_below lane generation slot within (generation_below times) below;
    }
