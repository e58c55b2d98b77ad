-- The law of the turns (Q.714, 3.3.2): the openings that take a slot have it one after another, each with the next generation. So a reference
-- comes again no sooner than after 255 turns of its slot. The lane's number has its place in the last four bits of a reference.
use Rattle.std.specs.Prelude.{◌≡◌, ◌⊎◌, ℕ, ◌<◌, List, take, Some, slice_get}
use Rattle.relay_base.specs.declared.limits.TheConstants.{MOST_LANES}
use Rattle.plant_core.specs.declared.entry.Entry.{Entry}
use Rattle.section_model.specs.References.{slot_of, generation_after}
use Rattle.section_model.specs.Lane.{Lane, Opening, reference_of, reference_at, times_taken}
use Rattle.lane_law.specs.HearingLaw.{openings_of}

-- an opening took the reference for one of its ends
abbrev pub Took : ℕ → Opening → Type 0
Took mine o = (reference_of o.first.this ≡ Some mine) ⊎ (reference_of o.first.that ≡ Some mine)

-- the openings of a journal before the one at a place
abbrev pub openings_before : Lane → List Entry → ℕ → List Opening
openings_before lane journal place = take place (openings_of lane journal)

-- a reference of its slot in the turn after these openings
abbrev pub IsInTurn : Lane → List Opening → ℕ → Type 0
IsInTurn lane openings mine = mine ≡ reference_at lane (times_taken openings) (slot_of mine)

-- each opening has references of their slots in the turn after those before it
abbrev pub EachInTurn : Type 0
EachInTurn =
    (lane : Lane) (journal : List Entry) (place : ℕ) (o : Opening) (mine : ℕ) → lane.number < MOST_LANES
    → slice_get (openings_of lane journal) place ≡ Some o → Took mine o → IsInTurn lane (openings_before lane journal place) mine

-- the turns of two openings that took one reference differ by a multiple of 255
abbrev pub SameGeneration : Type 0
SameGeneration =
    (lane : Lane) (journal : List Entry) (i j : ℕ) (one other : Opening) (mine : ℕ) → lane.number < MOST_LANES
    → slice_get (openings_of lane journal) i ≡ Some one → slice_get (openings_of lane journal) j ≡ Some other → Took mine one → Took mine other
    → generation_after (times_taken (openings_before lane journal i) (slot_of mine)) ≡ generation_after (times_taken (openings_before lane journal j) (slot_of mine))
