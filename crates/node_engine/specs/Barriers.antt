-- The lanes come to their places at the opening of a phase, and leave them at its end.
use Rattle.std.specs.Prelude.{◌≡◌, ◌++◌, true, List, length, map, reverse}
use Rattle.std.specs.List.{AllByRecursion}
use Rattle.plant_core.specs.Plant.{PlantState}
use Rattle.gtt_editions.specs.Published.{published, nothing, Begins}
use Rattle.gtt_editions.specs.Standing.{Standing, Publishing}
use Rattle.scmg.specs.Control.{routing_after}
use Rattle.scmg.specs.Lane.{ControlState}
use Rattle.scmg.specs.Lane.{changes_of as changes_by}
use Rattle.node_engine.specs.declared.node.Node.{Node}
use Rattle.lane_seats.specs.Seats.{SeatState}
use Rattle.lane_turns.specs.Phases.{PhaseState}

-- a plant with the routing data of the control lane, at the edition that it published last
pub record IsPlantOf (lane : ControlState) (plant : PlantState) : Type 0 where
  pub routing : plant.routing ≡ routing_after lane.start (changes_by lane)
  pub edition : plant.edition ≡ length (changes_by lane)

-- a publisher who begins after the changes of the control lane
pub record IsFresh (lane : ControlState) (p : Publishing) : Type 0 where
  pub number : p.opened.number ≡ length (changes_by lane)
  pub seen : p.seen ≡ nothing

-- a place that begins there, and has seen nothing
pub record IsAtOpening (lane : ControlState) (place : Standing) : Type 0 where
  pub routing : place.opened.routing ≡ routing_after lane.start (changes_by lane)
  pub number : place.opened.number ≡ length (changes_by lane)
  pub seen : place.seen ≡ nothing

-- these lanes, each at such a place
pub record AreSeated {A : Type 0} (control : ControlState) (lanes : List A) (seats : List (SeatState A)) : Type 0 where
  pub lanes_are : map (λ s. s.lane) seats ≡ lanes
  pub places : AllByRecursion (IsAtOpening control) (map (λ s. s.place) seats)

-- the lanes of the first list have the last places, those of the second the ones before
pub record HaveTaken {A B : Type 0} (places : List Standing) (firsts : List (SeatState A)) (seconds : List (SeatState B)) : Type 0 where
  pub left : List Standing
  pub are : places ≡ (left ++ reverse (map (λ s. s.place) seconds)) ++ reverse (map (λ s. s.place) firsts)

-- the lanes of a node, at the opening of a phase
pub record IsOpening (node : Node) (lanes : PhaseState) : Type 0 where
  pub publisher : IsFresh node.control lanes.publisher
  pub conns : AreSeated node.control node.conns.items lanes.conns
  pub units : AreSeated node.control node.units.items lanes.units

-- what these lanes have seen from their places is a beginning of what was published
abbrev pub HaveSeen : {A : Type 0} → Publishing → List (SeatState A) → Type 0
HaveSeen p seats = AllByRecursion (λ s. Begins (published p.seen.changes true) s.place.seen) seats

-- the lanes went back to their node at the end of a phase
pub record IsClosing (control : ControlState) (lanes : PhaseState) (node : Node) : Type 0 where
  pub control_is : node.control ≡ control
  pub conns : node.conns.items ≡ map (λ s. s.lane) lanes.conns
  pub units : node.units.items ≡ map (λ s. s.lane) lanes.units
  pub conns_seen : HaveSeen lanes.publisher lanes.conns
  pub units_seen : HaveSeen lanes.publisher lanes.units
