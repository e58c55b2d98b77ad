use Rattle.std.proofs.Common.{◌≡◌, ℕ, ◌<◌, ◌≤◌, length, vec_capacity, slice_index_or}
use Rattle.link_threads.specs.Gates.{GivesPass}
use Rattle.link_threads.proofs.dealing.take_back.Given as goal

abbrev pub invariant-loop-hand : goal.invariant-loop-hand
invariant-loop-hand l = record {
  count : length l.passes.items ≡ l.hand-index;
  room : length l.hands ≤ vec_capacity l.passes;
  given : (k : ℕ) (d : _) (e : _) → k < l.hand-index → GivesPass (slice_index_or l.initial.hands k d) (slice_index_or l.hands k d) (slice_index_or l.passes.items k e);
  left : (k : ℕ) (d : _) → l.hand-index ≤ k → slice_index_or l.hands k d ≡ slice_index_or l.initial.hands k d;
}
