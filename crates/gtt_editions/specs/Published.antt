-- What is published.
use Rattle.std.specs.Prelude.{◌≡◌, Bool, true, false, List, [], ◌++◌}
use Rattle.plant_core.specs.declared.change.Group.{Group}

-- the groups of changes since the opening, and whether the end is marked
pub record Published : Type 0 where
  pub changes : List Group
  pub ended : Bool

abbrev pub published : List Group → Bool → Published
published changes ended = record { changes = changes; ended = ended }

abbrev pub nothing : Published
nothing = published [] false

-- `long` begins with `short`, and is `short` where the end is marked in it
pub record Begins (long short : Published) : Type 0 where
  pub rest : List Group
  pub longer : long.changes ≡ short.changes ++ rest
  pub closed : short.ended ≡ true → long ≡ short
