-- What a contract sees of a lane of a phase.
use Rattle.std.specs.Prelude.{[]}
use Rattle.plant_core.specs.declared.terms.TheConstants.{USUAL_TICKS}
use Rattle.gtt_editions.specs.Published.{nothing}
use Rattle.gtt_editions.specs.Shown.{no_edition}
use Rattle.conn_journal.specs.Lanes.{ConnLaneState}
use Rattle.data_lane.specs.Legal.{LaneState}
use Rattle.lane_seats.specs.Seats.{SeatState}
use Rattle.lane_seats.specs.Controls.{ControlSeatState}

-- the control lane with its publisher, or a connection lane or a data lane at its place
pub data PhaseLane : Type 0 where
  Control : ControlSeatState → PhaseLane
  Conn : SeatState ConnLaneState → PhaseLane
  Data : SeatState LaneState → PhaseLane

-- some lane, before its first event
abbrev pub no_lane : PhaseLane
no_lane = Data (record {
  lane = record { head = record { terms = record { own = 0; credit = 1; ticks = USUAL_TICKS }; reassembly = 1; short = [] }; number = 0; journal = [] };
  place = record { opened = no_edition; seen = nothing };
})
