-- What the two copies show, and what is known of it from each seat.
use Rattle.std.specs.Prelude.{Bool, false, List, [], Option, None}
use Rattle.plant_core.specs.Plant.{start_of}
use Rattle.plant_core.specs.declared.change.Group.{Group}
use Rattle.gtt_editions.specs.Editions.{Edition}
use Rattle.gtt_editions.specs.Published.{Published, nothing}

-- an edition, the groups of changes since the opening, and whether the opening and the end are marked
pub record Shown : Type 0 where
  pub edition : Edition
  pub changes : List Group
  pub opened : Bool
  pub ended : Bool

-- the edition at the opening, once the seat knows it, and what it has seen and was told of what is published
pub record View : Type 0 where
  pub opened : Option Edition
  pub seen : Published
  pub told : Published

abbrev pub no_edition : Edition
no_edition = record { routing = start_of 0 []; number = 0 }

-- a copy of nothing
abbrev pub unopened : Shown
unopened = record { edition = no_edition; changes = []; opened = false; ended = false }

-- a seat that knows nothing yet
abbrev pub newcomer : View
newcomer = record { opened = None; seen = nothing; told = nothing }
