use Rattle.std.proofs.Common.{◌≡◌, [], length}
use Rattle.std.specs.List.{AllByRecursion}
use Rattle.right_book.specs.Lanes.{LanesFrom}
use Rattle.node_engine.specs.Running.{IsDataLaneOf}
use Rattle.node_engine.proofs.node.data_lanes.Given as goal

-- the lanes so far
abbrev pub invariant-loop-number : goal.invariant-loop-number
invariant-loop-number l = record {
  count : length l.lanes.items ≡ l.number;
  lanes : LanesFrom (IsDataLaneOf l.head) 0 l.lanes.items;
  empty : AllByRecursion (λ lane. lane.journal ≡ []) l.lanes.items;
}
