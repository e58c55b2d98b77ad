-- The law of who hears (Q.714, 3.3.2), over the openings that the entries of a lane leave, whatever these are, and so of a legal journal. The lane's
-- number has its place in the last four bits of a reference.
use Rattle.std.specs.Prelude.{◌≡◌, ℕ, ◌<◌, true, false, List, [], Some, slice_get}
use Rattle.relay_base.specs.declared.limits.TheConstants.{MOST_LANES}
use Rattle.relay_base.specs.declared.words.Event.{Event}
use Rattle.plant_core.specs.declared.entry.Entry.{Entry}
use Rattle.section_model.specs.Step.{hears}
use Rattle.section_model.specs.Lane.{Lane, Opening, connection_of, holds, is_tick}
use Rattle.section_model.specs.Laws.{openings_from}

abbrev pub openings_of : Lane → List Entry → List Opening
openings_of lane journal = openings_from lane [] journal

-- two openings that hold one slot are the same, by their places
abbrev pub OneHolds : Type 0
OneHolds =
    (lane : Lane) (journal : List Entry) (slot i j : ℕ) (one other : Opening) → lane.number < MOST_LANES →
    slice_get (openings_of lane journal) i ≡ Some one → slice_get (openings_of lane journal) j ≡ Some other →
    holds lane.terms.ticks slot one ≡ true → holds lane.terms.ticks slot other ≡ true → i ≡ j

-- two openings that hear one message or one request are the same, by their places
abbrev pub OneHears : Type 0
OneHears =
    (lane : Lane) (journal : List Entry) (event : Event) (i j : ℕ) (one other : Opening) → lane.number < MOST_LANES → is_tick event ≡ false →
    slice_get (openings_of lane journal) i ≡ Some one → slice_get (openings_of lane journal) j ≡ Some other →
    hears (connection_of lane.terms.ticks one) event ≡ true → hears (connection_of lane.terms.ticks other) event ≡ true → i ≡ j
