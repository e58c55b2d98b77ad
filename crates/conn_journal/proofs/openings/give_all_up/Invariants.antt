use Rattle.std.proofs.Common.{◌≡◌, drop}
use Rattle.conn_journal.specs.Inner.Changes.{all_given_up, all_disowned, CanAllGiveUp}
use Rattle.conn_journal.proofs.openings.give_all_up.Given as goal

-- the ends of those that are left can give their references up, and it comes to the same
abbrev pub invariant-loop-next : goal.invariant-loop-next
invariant-loop-next l = record {
  can : CanAllGiveUp (drop l.next-index l.nexts) l.slots;
  slots : all_given_up (drop l.next-index l.nexts) l.slots ≡ all_given_up l.nexts l.fn.slots;
  owners : all_disowned (drop l.next-index l.nexts) l.index ≡ all_disowned l.nexts l.fn.index;
}
