use Rattle.std.proofs.Common.{◌≡◌, ◌+◌, ◌≤◌, ℕ, length, get_or, sum, take}
use Rattle.control_replay.proofs.table.sums_before.Given as goal

-- the sums so far, and the last of them
abbrev pub invariant-loop-count : goal.invariant-loop-count
invariant-loop-count l = record {
  size : length l.sums.items ≡ l.count-index + 1;
  total : l.total ≡ sum (take l.count-index l.counts);
  each : (at : ℕ) → at ≤ l.count-index → get_or l.sums.items at 0 ≡ sum (take at l.counts);
}
