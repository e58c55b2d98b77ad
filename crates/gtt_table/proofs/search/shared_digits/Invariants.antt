use Rattle.std.proofs.Common.{length, drop, ◌-◌, ◌+◌, ◌≡◌, nat_eq}
use Rattle.std.specs.List.{common_prefix_len}
use Rattle.gtt_table.proofs.search.shared_digits.Given as goal

abbrev pub invariant-loop-shared : goal.invariant-loop-shared
invariant-loop-shared l = l.shared + common_prefix_len nat_eq (drop l.shared l.mine) (drop l.shared l.other) ≡ common_prefix_len nat_eq l.mine l.other

abbrev pub decreases-loop-shared : goal.decreases-loop-shared
decreases-loop-shared l = length l.mine - l.shared
