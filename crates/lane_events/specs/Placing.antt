-- The events of a capture with their places, and those of a lane.
use Rattle.std.specs.Prelude.{Bool, List, map, filter}
use Rattle.relay_base.specs.declared.words.Stamp.{Stamp}
use Rattle.plant_core.specs.declared.entry.ControlEvent.{ControlEvent}
use Rattle.node_head.specs.declared.head.Head.{Head}
use Rattle.capture_form.specs.declared.lane_place.LanePlace.{LanePlace}
use Rattle.capture_form.specs.Events.{Stamped}
use Rattle.capture_form.specs.Place.{place_of}
use Rattle.right_book.specs.Placed.{in_control, in_conn, in_data}
use Rattle.lane_events.specs.declared.placing.Lane.{Lane}
use Rattle.lane_events.specs.declared.placing.Lane.TheVariants.{Control, Conn, Data}
use Rattle.lane_events.specs.Pending.{Pending}

-- the places that are in a lane
abbrev pub is_in : Lane → LanePlace → Bool
is_in Control place = in_control place
is_in (Conn number) place = in_conn number place
is_in (Data number) place = in_data number place

-- an event with its place
abbrev pub with_place : Head → Stamp × ControlEvent → LanePlace × (Stamp × ControlEvent)
with_place head e = (place_of head e.1, e)

-- all events of phases with their places
abbrev pub all_placed : Head → List (List Stamped) → List (List (List (LanePlace × (Stamp × ControlEvent))))
all_placed head phases = map (map (map (with_place head))) phases

-- the events that a lane takes of these
abbrev pub kept : Lane → List (LanePlace × (Stamp × ControlEvent)) → Stamped
kept lane events = map (λ e. e.1) (filter (λ e. is_in lane e.0) events)

-- those of a link, none of which is taken yet
abbrev pub pending_of : Lane → List (LanePlace × (Stamp × ControlEvent)) → Pending
pending_of lane events = record { events = kept lane events; taken = 0 }
