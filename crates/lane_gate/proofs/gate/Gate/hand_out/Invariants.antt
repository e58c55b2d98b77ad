use Rattle.std.proofs.Common.{◌≡◌, ◌-◌, ◌≤◌, [], vec_capacity, All}
use Rattle.lane_gate.specs.Gates.{IsPassOf, AreNumbered}
use Rattle.lane_gate.specs.Passes.{done_of}
use Rattle.lane_gate.specs.Inner.Views.{fresh_counts, new_view}
use Rattle.lane_gate.proofs.gate.Gate.hand_out.Given as goal

abbrev pub invariant-loop-number : goal.invariant-loop-number
invariant-loop-number g l = record {
  table : l.seat.table_id ≡ l.self.table.shared.table_id;
  view : l.seat.me ≡ (new_view (fresh_counts l.number (l.callers - l.number)), []);
  own : All (IsPassOf l.self) l.passes.items;
  numbered : AreNumbered l.number l.passes.items;
  unused : All (λ p. done_of p ≡ 0) l.passes.items;
  room : l.callers ≤ vec_capacity l.passes;
}
