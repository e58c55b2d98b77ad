-- Editions of the routing data: each group of changes makes the next one, whole.
use Rattle.std.specs.Prelude.{ℕ, ◌+◌, List, length}
use Rattle.plant_core.specs.Plant.{RoutingData, PlantState}
use Rattle.plant_core.specs.Changes.{plant_after, plant_after_all}
use Rattle.plant_core.specs.declared.change.Group.{Group}

-- the routing data, with the number of the edition
pub record Edition : Type 0 where
  pub routing : RoutingData
  pub number : ℕ

-- that of a plant
abbrev pub edition_of : PlantState → Edition
edition_of plant = record { routing = plant.routing; number = plant.edition }

-- the next edition, by a group
abbrev pub edition_after : Edition → Group → Edition
edition_after e group = record { routing = plant_after e.routing group; number = e.number + 1 }

-- the edition after groups, in order
abbrev pub edition_after_all : Edition → List Group → Edition
edition_after_all e changes = record { routing = plant_after_all e.routing changes; number = e.number + length changes }
