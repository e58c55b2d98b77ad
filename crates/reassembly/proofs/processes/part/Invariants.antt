use Rattle.std.proofs.Common.{◌≡◌, ◌+◌, ◌++◌, ◌≤◌, vec_len, vec_capacity, length}
use Rattle.reassembly.specs.Reassembly.{ended_by_tick, after_tick}
use Rattle.reassembly.proofs.processes.part.Given as goal

abbrev pub invariant-loop-process : goal.invariant-loop-process
invariant-loop-process l = record {
  may_go_on : (goal.iterator-loop-process).can_next l.process-iterator;
  ends : (goal.iterator-loop-process).is_finite l.process-iterator;
  ended : l.failed.items ≡ l.initial.failed.items ++ ended_by_tick l.yielded;
  went_on : l.kept.items ≡ l.initial.kept.items ++ after_tick l.yielded;
  few_ended : vec_len l.failed ≤ vec_len l.initial.failed + length l.yielded;
  few_went_on : vec_len l.kept ≤ vec_len l.initial.kept + length l.yielded;
  failed_room : vec_capacity l.failed ≡ vec_capacity l.initial.failed;
  kept_room : vec_capacity l.kept ≡ vec_capacity l.initial.kept;
}
