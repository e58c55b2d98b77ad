-- The book of a run.
use Rattle.std.specs.Prelude.{◌≡◌, List, length}
use Rattle.node_head.specs.declared.head.Head.{Head}
use Rattle.scmg.specs.Control.{IsControlJournal}
use Rattle.section_model.specs.Journals.{IsConnJournal}
use Rattle.data_lane.specs.Legal.{IsDataJournal}
use Rattle.journal_text.specs.declared.book.Book.{Book}
use Rattle.capture_form.specs.Events.{Stamped}
use Rattle.right_book.specs.Own.{control_pairs_of}
use Rattle.right_book.specs.Placed.{in_control, IsOfLane}
use Rattle.right_book.specs.Heads.{routing_of, lane_head_of, control_head_of}
use Rattle.right_book.specs.Lanes.{LanesFrom, IsServed, conn_kind, data_kind}

-- the journals have the events of the phases that are placed in their lanes, each with the routing that it asks
pub record HasServed (head : Head) (phases : List (List Stamped)) (book : Book) : Type 0 where
  pub control : IsOfLane in_control head phases (control_pairs_of book.control)
  pub conns : LanesFrom (IsServed (conn_kind head) head phases book.control) 0 book.conns
  pub units : LanesFrom (IsServed data_kind head phases book.control) 0 book.units

-- each journal is a legal one of its lane
pub record AreLegal (head : Head) (book : Book) : Type 0 where
  pub control : IsControlJournal (control_head_of head) (routing_of head) book.control
  pub conns : LanesFrom (IsConnJournal (lane_head_of head)) 0 book.conns
  pub units : LanesFrom (IsDataJournal (lane_head_of head)) 0 book.units

-- there are as many journals as the head states lanes
pub record HasLanes (head : Head) (book : Book) : Type 0 where
  pub conns : length book.conns ≡ head.conn_lanes
  pub units : length book.units ≡ head.data_lanes

-- the book of a head and its phases
pub record IsRight (head : Head) (phases : List (List Stamped)) (book : Book) : Type 0 where
  pub lanes : HasLanes head book
  pub legal : AreLegal head book
  pub served : HasServed head phases book
