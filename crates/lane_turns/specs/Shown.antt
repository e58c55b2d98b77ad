-- A lane by its kind, as a contract sees it.
use Rattle.lane_turns.specs.declared.lane_kind.LaneKind.{LaneKind}
use Rattle.lane_turns.specs.declared.lane_kind.LaneKind.TheVariants as kind
use Rattle.lane_turns.specs.LaneStates.{PhaseLane, Control, Conn, Data}

abbrev pub shown : {R : Type 0} → LaneKind R → PhaseLane
shown (kind.Control s) = Control s
shown (kind.Conn s) = Conn s
shown (kind.Data s) = Data s
