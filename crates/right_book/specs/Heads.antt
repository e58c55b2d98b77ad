-- What a head states for its lanes.
use Rattle.node_head.specs.declared.head.Head.{Head}
use Rattle.plant_core.specs.Plant.{RoutingData, start_of}
use Rattle.plant_core.specs.declared.terms.LaneHead.{LaneHead}
use Rattle.scmg.specs.declared.head.ControlHead.{ControlHead}

-- the routing data of a head: its rows, with all users in service and nothing barred
abbrev pub routing_of : Head → RoutingData
routing_of head = record (start_of head.point head.users) { rows = head.row }

-- what a connection lane or a data lane is told of a head
abbrev pub lane_head_of : Head → LaneHead
lane_head_of head = record {
  terms = record { own = head.point; credit = head.credit; ticks = head.timers };
  reassembly = head.timers.reassembly;
  short = head.short;
}

-- what the control lane is told of a head
abbrev pub control_head_of : Head → ControlHead
control_head_of head = record { users = head.users; concerned = head.concerned; replicates = head.replicate; ticks = head.timers }
