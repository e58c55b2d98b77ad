use Rattle.std.proofs.Common.{◌≡◌, ℕ, ◌<◌, length, get_or, take}
use Rattle.control_replay.specs.Inner.Counts.{editions_in}
use Rattle.control_replay.proofs.table.editions_in_phases.Given as goal

-- the editions of the entries so far are counted
abbrev pub invariant-loop-entry : goal.invariant-loop-entry
invariant-loop-entry l = record {
  size : length l.counts.items ≡ l.count;
  each : (phase : ℕ) → phase < l.count → get_or l.counts.items phase 0 ≡ editions_in phase (take l.entry-index l.control);
}
