-- The editions of the routing data that the routings of a lane name, one after another.
use Rattle.std.specs.Prelude.{◌≡◌, ◌≤◌, ℕ, ◌+◌, ◌&&◌, nat_le, Bool, List, length, take, get_or, if◌then◌else◌}
use Rattle.std.specs.List.{AllByRecursion}
use Rattle.plant_core.specs.declared.change.Group.{Group}
use Rattle.plant_core.specs.Changes.{plant_after_all}
use Rattle.plant_core.specs.Plant.{RoutingData, PlantState}

-- the routing data at the start, the groups of changes that were published since, how many of them were published before each phase, from 0, and the edition that was named last, or 0
pub record Named : Type 0 where
  pub start : RoutingData
  pub groups : List Group
  pub before : List ℕ
  pub edition : ℕ

-- a plant has absorbed the first of these groups, as many as its edition
abbrev pub HasAbsorbed : RoutingData → List Group → PlantState → Type 0
HasAbsorbed start groups plant = plant.routing ≡ plant_after_all start (take plant.edition groups)

-- the routing data of an edition
abbrev pub routing_at : Named → ℕ → RoutingData
routing_at s edition = plant_after_all s.start (take edition s.groups)

-- a plant that holds those of the edition that was named last
pub record IsAt (s : Named) (plant : PlantState) : Type 0 where
  pub edition : plant.edition ≡ s.edition
  pub routing : plant.routing ≡ routing_at s s.edition
  pub within : s.edition ≤ length s.groups
  pub few : AllByRecursion (λ n. n ≤ length s.groups) s.before

-- how many groups were published before a phase
abbrev pub before_phase : Named → ℕ → ℕ
before_phase s phase = get_or s.before phase 0

-- an edition may be named next in a phase: it was published before the phase or in it, and isn't earlier than the last one
abbrev pub may_be_next : Named → ℕ → ℕ → Bool
may_be_next s phase edition =
    nat_le (before_phase s phase) edition && nat_le edition (before_phase s (phase + 1)) && nat_le s.edition edition

abbrev pub named_next : Named → ℕ → ℕ → Named
named_next s phase edition = if may_be_next s phase edition then record s { edition = edition } else s
