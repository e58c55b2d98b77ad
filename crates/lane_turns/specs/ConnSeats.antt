-- A connection lane at its place.
use Rattle.conn_journal.specs.Lanes.{ConnLaneState}
use Rattle.lane_seats.specs.Seats.{SeatState, Seated}

abbrev pub conn_seated : SeatState ConnLaneState → Seated
conn_seated s = record { head = s.lane.head; number = s.lane.number; journal = s.lane.journal; place = s.place }
