use Rattle.std.proofs.Common.{ℕ, ◌<◌, ◌≤◌, length, vec_len, slice_index_or}
use Rattle.link_threads.specs.Gates.{AreNew, IsDealt}
use Rattle.link_threads.proofs.dealing.deal.Given as goal

abbrev pub invariant-loop-pass : goal.invariant-loop-pass
invariant-loop-pass g l = record {
  left : AreNew l.gate l.passes.items;
  within : length l.passes.items ≤ length l.hands;
  dealt : (k : ℕ) (d : _) → k < length l.initial.hands → IsDealt l.gate (length l.passes.items) k (slice_index_or l.initial.hands k d) (slice_index_or l.hands k d);
}

abbrev pub decreases-loop-pass : goal.decreases-loop-pass
decreases-loop-pass g l = vec_len l.passes
