-- A lane in its gate: what it is to take of a phase, and how far it has come.
use Rattle.std.specs.Prelude.{◌<◌, ◌^◌, ◌+◌, ◌-◌, ℕ, zero, suc, List, length, drop}
use Rattle.relay_base.specs.declared.words.Stamp.{Stamp}
use Rattle.plant_core.specs.declared.entry.ControlEvent.{ControlEvent}
use Rattle.plant_core.specs.declared.entry.ControlEvent.TheVariants.{Plain}
use Rattle.node_head.specs.declared.head.Head.{Head}
use Rattle.capture_form.specs.Events.{Stamped}
use Rattle.lane_gate.specs.Plan.{Plan}
use Rattle.right_book.specs.Own.{pairs_of, control_pairs_of}
use Rattle.link_threads.specs.declared.lane_name.LaneName.{LaneName}
use Rattle.link_threads.specs.declared.lane_name.LaneName.TheVariants as name
use Rattle.link_threads.specs.Links.{is_in}
use Rattle.lane_turns.specs.LaneStates.{PhaseLane, Control, Conn, Data}
use Rattle.lane_seats.specs.Plans.{of_link, planned, AreBegun, AreWhole}
use Rattle.lane_seats.specs.Seats.{Takes, HasLooked, GoneOn, conn_seat, data_seat, data_seated}
use Rattle.lane_seats.specs.Controls.{ControlTakes, ControlGoneOn, IsUnchanged, IsOpen}
use Rattle.lane_turns.specs.ConnSeats.{conn_seated}

-- ---- one event

-- no change of the routing data
abbrev pub IsPlain : ControlEvent → Type 0
IsPlain (Plain e) = Unit {0}
IsPlain _ = ⊥

-- the lane can take the event
abbrev pub CanTake : ControlEvent → PhaseLane → Type 0
CanTake event (Control s) = (length s.lane.journal < 4294967295) × IsOpen s.publisher s.lane
CanTake event (Conn s) = IsPlain event × (length s.lane.journal < 2 ^ 32)
CanTake event (Data s) = IsPlain event

-- the lane takes an event
abbrev pub TakesEvent : Stamp → ControlEvent → PhaseLane → PhaseLane → Type 0
TakesEvent stamp event (Control old) (Control new) = ControlTakes stamp event old new
TakesEvent stamp (Plain e) (Conn old) (Conn new) = Takes conn_seat stamp e (conn_seated old) (conn_seated new)
TakesEvent stamp (Plain e) (Data old) (Data new) = Takes data_seat stamp e (data_seated old) (data_seated new)
TakesEvent stamp event _ _ = ⊥

-- the lane is as before
abbrev pub IsAsBefore : PhaseLane → PhaseLane → Type 0
IsAsBefore (Control old) (Control new) = IsUnchanged old new
IsAsBefore (Conn old) (Conn new) = HasLooked old new
IsAsBefore (Data old) (Data new) = HasLooked old new
IsAsBefore _ _ = ⊥

-- ---- many events

-- the lane went on with these events
abbrev pub HasGoneOn : (Stamped → Type 0) → PhaseLane → PhaseLane → Type 0
HasGoneOn Own (Control old) (Control new) = ControlGoneOn Own old new
HasGoneOn Own (Conn old) (Conn new) = GoneOn conn_seat Own (conn_seated old) (conn_seated new)
HasGoneOn Own (Data old) (Data new) = GoneOn data_seat Own (data_seated old) (data_seated new)
HasGoneOn Own _ _ = ⊥

-- the events of a lane's journal
abbrev pub pairs_in : PhaseLane → Stamped
pairs_in (Control s) = control_pairs_of s.lane.journal
pairs_in (Conn s) = pairs_of s.lane.journal
pairs_in (Data s) = pairs_of s.lane.journal

-- the lane is one of this name's kind
abbrev pub IsNamed : LaneName → PhaseLane → Type 0
IsNamed name.Control (Control s) = Unit {0}
IsNamed (name.Conn number) (Conn s) = Unit {0}
IsNamed (name.Data number) (Data s) = Unit {0}
IsNamed _ _ = ⊥

-- the lane can take so many events more
abbrev pub HasRoom : ℕ → PhaseLane → Type 0
HasRoom events (Control s) = (length s.lane.journal + events < 4294967296) × IsOpen s.publisher s.lane
HasRoom events (Conn s) = length s.lane.journal + events < 4294967296
HasRoom events (Data s) = Unit {0}

-- ---- the turn

-- what no event changes: the phase, which of its lanes it is, and the lane as it was at the opening
pub record Opening : Type 0 where
  pub head : Head
  pub lists : List Stamped
  pub name : LaneName
  pub first : PhaseLane

pub record TurnState : Type 0 where
  pub opening : Opening
  pub lane : PhaseLane

-- of each link the events that are placed in the lane
abbrev pub links_of : Opening → ℕ → Stamped
links_of o = planned (is_in o.name) o.head o.lists

abbrev pub plan_of : TurnState → Plan Opening ControlEvent
plan_of t = record { base = t.opening; links = links_of t.opening }

-- the events since the opening
abbrev pub fresh_of : TurnState → Stamped
fresh_of t = drop (length (pairs_in t.opening.first)) (pairs_in t.lane)

abbrev pub taken_of : TurnState → ℕ → ℕ
taken_of t link = length (of_link link (fresh_of t))

-- the numbers of the links below this one, added up
abbrev pub total : ℕ → (ℕ → ℕ) → ℕ
total zero f = 0
total (suc n) f = total n f + f n

-- how many events of the plan are left
abbrev pub left_of : TurnState → ℕ
left_of t = total (length t.opening.lists) (λ link. length (links_of t.opening link) - taken_of t link)

-- the events that were taken are the first of each link's plan, and there is room for those that are left
pub record IsTurn (t : TurnState) : Type 0 where
  pub named : IsNamed t.opening.name t.opening.first
  pub gone : HasGoneOn (AreBegun (links_of t.opening)) t.opening.first t.lane
  pub room : HasRoom (left_of t) t.lane

abbrev pub turn_of : Head → List Stamped → LaneName → PhaseLane → PhaseLane → TurnState
turn_of head lists name first lane = record { opening = record { head = head; lists = lists; name = name; first = first }; lane = lane }

-- a lane at the opening of a phase
abbrev pub opened_turn : Head → List Stamped → LaneName → PhaseLane → TurnState
opened_turn head lists name lane = turn_of head lists name lane lane

-- a lane that has taken all of its plan
abbrev pub HasServed : TurnState → PhaseLane → Type 0
HasServed t lane = HasGoneOn (AreWhole (links_of t.opening)) t.opening.first lane
