use Rattle.std.proofs.Common.{◌≡◌, ◌+◌}
use Rattle.conn_journal.specs.Inner.Ticking.{put_lives, AllAreKept}
use Rattle.lane_replays.proofs.listed.ListedConnectionsStore.advance.Given as goal

-- what is left can be put, and comes to the same
abbrev pub invariant-loop-next : goal.invariant-loop-next
invariant-loop-next l = record {
  may_go_on : (goal.iterator-loop-next).can_next l.next-iterator;
  ends : (goal.iterator-loop-next).is_finite l.next-iterator;
  taken : l.self.taken ≡ l.fn.self.taken + 1;
  alive : AllAreKept l.next-iterator.rest.items l.self.kept;
  same : put_lives l.next-iterator.rest.items l.self.kept ≡ put_lives l.fn.nexts.items l.fn.self.kept;
}
