-- The lanes of a phase in one row, and their kinds apart again.
use Rattle.std.specs.Prelude.{◌≡◌, ◌+◌, ◌++◌, ℕ, List, [], ◌∷◌, map, All}
use Rattle.std.specs.List.{flat_map}
use Rattle.node_head.specs.declared.head.Head.{Head}
use Rattle.capture_form.specs.Events.{Stamped}
use Rattle.scmg.specs.Lane.{ControlState}
use Rattle.conn_journal.specs.Lanes.{ConnLaneState}
use Rattle.data_lane.specs.Legal.{LaneState}
use Rattle.gtt_editions.specs.Standing.{Publishing}
use Rattle.link_threads.specs.declared.lane_name.LaneName.{LaneName}
use Rattle.link_threads.specs.declared.lane_name.LaneName.TheVariants as name
use Rattle.lane_turns.specs.LaneStates.{PhaseLane, Control, Conn, Data}
use Rattle.lane_seats.specs.Seats.{SeatState}
use Rattle.lane_turns.specs.Phases.{PhaseState}
use Rattle.lane_turns.specs.Turns.{TurnState, opened_turn}

-- a lane of each number from this one on
abbrev pub turns_from : {A : Type 0} → (ℕ → A → TurnState) → ℕ → List A → List TurnState
turns_from f number [] = []
turns_from f number (x ∷ xs) = f number x ∷ turns_from f (number + 1) xs

-- a lane of a kind at its place, before the first event of the phase
abbrev pub seated_turn : {A : Type 0} → (ℕ → LaneName) → (SeatState A → PhaseLane) → Head → List Stamped → ℕ → SeatState A → TurnState
seated_turn name_of lane_of head lists number s = opened_turn head lists (name_of number) (lane_of s)

abbrev pub conn_turn : Head → List Stamped → ℕ → SeatState ConnLaneState → TurnState
conn_turn = seated_turn name.Conn Conn

abbrev pub data_turn : Head → List Stamped → ℕ → SeatState LaneState → TurnState
data_turn = seated_turn name.Data Data

abbrev pub control_lane : ControlState → Publishing → PhaseLane
control_lane lane p = Control (record { lane = lane; publisher = p })

-- the connection lanes, the data lanes, and last the control lane, before the first event of a phase
abbrev pub turns_of : Head → List Stamped → ControlState → PhaseState → List TurnState
turns_of head lists control x =
    turns_from (conn_turn head lists) 0 x.conns
    ++ (turns_from (data_turn head lists) 0 x.units ++ opened_turn head lists name.Control (control_lane control x.publisher) ∷ [])

abbrev pub IsControl : PhaseLane → Type 0
IsControl (Control s) = Unit {0}
IsControl _ = ⊥

abbrev pub IsPlaced : LaneName → Type 0
IsPlaced name.Control = ⊥
IsPlaced _ = Unit {0}

-- a lane at a place
abbrev pub IsSeated : PhaseLane → Type 0
IsSeated (Control s) = ⊥
IsSeated _ = Unit {0}

abbrev pub conn_of : PhaseLane → List (SeatState ConnLaneState)
conn_of (Conn s) = s ∷ []
conn_of _ = []

abbrev pub data_of : PhaseLane → List (SeatState LaneState)
data_of (Data s) = s ∷ []
data_of _ = []

abbrev pub lanes_of : List TurnState → List PhaseLane
lanes_of turns = map (λ t. t.lane) turns

-- a lane that isn't the control lane, by its name
abbrev pub HasPlace : TurnState → Type 0
HasPlace t = IsPlaced t.opening.name

-- lanes at places, and last the control lane, by their names
pub record EndInControl (turns : List TurnState) : Type 0 where
  pub seats : List TurnState
  pub last : TurnState
  pub is : turns ≡ seats ++ last ∷ []
  pub placed : All HasPlace seats
  pub control : last.opening.name ≡ name.Control

-- the lanes of a row, by their kinds
pub record AreApart (lanes : List PhaseLane) (control : ControlState) (x : PhaseState) : Type 0 where
  pub seats : List PhaseLane
  pub is : lanes ≡ seats ++ control_lane control x.publisher ∷ []
  pub conns : x.conns ≡ flat_map conn_of seats
  pub units : x.units ≡ flat_map data_of seats
