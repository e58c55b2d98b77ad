-- The journal of a connection lane.
use Rattle.std.specs.Prelude.{ℕ, List}
use Rattle.plant_core.specs.declared.entry.Entry.{Entry}
use Rattle.plant_core.specs.declared.terms.LaneHead.{LaneHead}
use Rattle.section_model.specs.Lane.{Lane, IsConnectionJournal}

abbrev pub lane_of : LaneHead → ℕ → Lane
lane_of head number = record { terms = head.terms; number = number }

-- the journal of the connection lane of this number
abbrev pub IsConnJournal : LaneHead → ℕ → List Entry → Type 0
IsConnJournal head number journal = IsConnectionJournal (lane_of head number) journal
