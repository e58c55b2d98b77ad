-- Which events of a capture a lane takes.
use Rattle.std.specs.Prelude.{ℕ, ◌==◌, Bool, true, false, List, filter, map}
use Rattle.node_head.specs.declared.head.Head.{Head}
use Rattle.capture_form.specs.declared.lane_place.LanePlace.{LanePlace}
use Rattle.capture_form.specs.declared.lane_place.LanePlace.TheVariants.{All, Control, Conn, Unit as Data}
use Rattle.capture_form.specs.Place.{place_of}
use Rattle.capture_form.specs.Events.{Stamped}
use Rattle.right_book.specs.Own.{HasEventsInOrder}

-- the places that are in the control lane, and in the connection lane and the data lane of a number
abbrev pub in_control : LanePlace → Bool
in_control All = true
in_control Control = true
in_control _ = false

abbrev pub in_conn : ℕ → LanePlace → Bool
in_conn number All = true
in_conn number (Conn n) = n == number
in_conn number _ = false

abbrev pub in_data : ℕ → LanePlace → Bool
in_data number All = true
in_data number (Data n) = n == number
in_data number _ = false

-- those of the events whose place is in the lane
abbrev pub taken : (LanePlace → Bool) → Head → Stamped → Stamped
taken in_lane head events = filter (λ e. in_lane (place_of head e.1)) events

-- the phases, with these events alone
abbrev pub placed : (LanePlace → Bool) → Head → List (List Stamped) → List (List Stamped)
placed in_lane head phases = map (map (taken in_lane head)) phases

-- the events that the lane is to take, each link's events of each phase once and in order, and no others
abbrev pub IsOfLane : (LanePlace → Bool) → Head → List (List Stamped) → Stamped → Type 0
IsOfLane in_lane head phases events = HasEventsInOrder events (placed in_lane head phases)
