-- What the lanes of a phase do with its events.
use Rattle.std.specs.Prelude.{◌≡◌, ◌+◌, ◌++◌, ◌<◌, ℕ, List, length, map}
use Rattle.std.specs.List.{AllByRecursion}
use Rattle.plant_core.specs.declared.change.Group.{Group}
use Rattle.plant_core.specs.declared.entry.ControlEntry.{ControlEntry}
use Rattle.gtt_editions.specs.Standing.{Publishing}
use Rattle.data_lane.specs.Legal.{LaneState}
use Rattle.conn_journal.specs.Lanes.{ConnLaneState}
use Rattle.node_head.specs.declared.head.Head.{Head}
use Rattle.capture_form.specs.Events.{Stamped}
use Rattle.scmg.specs.Lane.{ControlState}
use Rattle.scmg.specs.Lane.{changes_of as changes_by}
use Rattle.right_book.specs.Own.{control_pairs_of}
use Rattle.right_book.specs.Placed.{in_control}
use Rattle.link_threads.specs.Pairs.{PairsFrom}
use Rattle.lane_seats.specs.Plans.{planned, AreWhole}
use Rattle.lane_seats.specs.Seats.{SeatState, Seated, WentOn, conn_seat, data_seat, data_seated}
use Rattle.lane_turns.specs.ConnSeats.{conn_seated}

-- the publisher of the control lane, and the other lanes at their places
pub record PhaseState : Type 0 where
  pub publisher : Publishing
  pub conns : List (SeatState ConnLaneState)
  pub units : List (SeatState LaneState)

abbrev pub conns_seated : PhaseState → List Seated
conns_seated x = map conn_seated x.conns

abbrev pub units_seated : PhaseState → List Seated
units_seated x = map data_seated x.units

-- the lanes went on with the events of a phase
pub record GoesOn (head : Head) (lists : List Stamped) (old : ControlState) (from : PhaseState) (new : ControlState) (to : PhaseState) : Type 0 where
  pub more : List ControlEntry
  pub journal : new.journal ≡ old.journal ++ more
  pub own : AreWhole (planned in_control head lists) (control_pairs_of more)
  pub head_kept : new.head ≡ old.head
  pub start_kept : new.start ≡ old.start
  pub published : List Group
  pub here : changes_by new ≡ changes_by old ++ published
  pub there : to.publisher.seen.changes ≡ from.publisher.seen.changes ++ published
  pub first : to.publisher.opened.number ≡ from.publisher.opened.number
  pub conns : PairsFrom (WentOn conn_seat head lists) 0 (conns_seated from) (conns_seated to)
  pub units : PairsFrom (WentOn data_seat head lists) 0 (units_seated from) (units_seated to)

-- the lanes can take so many events more
pub record HasRoomFor (events : ℕ) (lane : ControlState) (lanes : PhaseState) : Type 0 where
  pub control : length lane.journal + events < 4294967296
  pub conns : AllByRecursion (λ s. length s.journal + events < 4294967296) (conns_seated lanes)
