-- The lowest free references of a lane's slots.
use Rattle.std.specs.Prelude.{ℕ, ◌==◌, if◌then◌else◌, List, [], length, take}
use Rattle.local_refs.specs.Slots.{LaneSlots, free_references}

abbrev pub or_none_of : ℕ → List ℕ → List ℕ
or_none_of count few = if length few == count then few else []

-- so many, or none where there are too few
abbrev pub lowest_of : LaneSlots → ℕ → List ℕ
lowest_of slots count = or_none_of count (take count (free_references slots))
