use Rattle.std.proofs.Common.{◌≡◌, [], ◌++◌, map, vec_len, All, None}
use Rattle.lane_gate.specs.Gates.{IsPassOf}
use Rattle.lane_gate.specs.Passes.{count_of}
use Rattle.lane_gate.proofs.gate.Gate.gather.Given as goal

abbrev pub invariant-loop-pass : goal.invariant-loop-pass
invariant-loop-pass g l = record {
  own : All (IsPassOf l.self) l.passes.items;
  table : l.all.table_id ≡ l.self.table.shared.table_id;
  empty_handed : l.all.me.1 ≡ [];
  idle : l.all.me.0.noted ≡ None;
  counts : map count_of l.fn.passes.items ≡ map count_of l.passes.items ++ l.all.me.0.counts;
}

abbrev pub decreases-loop-pass : goal.decreases-loop-pass
decreases-loop-pass g l = vec_len l.passes
