use Rattle.section_coupling.specs.declared.duo.TheConstants.{TIMERS}
use Rattle.std.proofs.Common.{◌≡◌, ◌≤◌, ◌+◌, ◌*◌, length, false}
use Rattle.conn_journal.specs.Inner.Ticking.{put_lives, AllAreKept}
use Rattle.conn_journal.specs.Inner.Waking.{is_next}
use Rattle.conn_lane.proofs.Woken.{AreTimed}
use Rattle.conn_lane.proofs.timed.TimedConnectionsStore.advance.Given as goal

-- what is left can be put, and comes to the same; all others have their timers, and there is room for those that are left
abbrev pub invariant-loop-next : goal.invariant-loop-next
invariant-loop-next l = record {
  may_go_on : (goal.iterator-loop-next).can_next l.next-iterator;
  ends : (goal.iterator-loop-next).is_finite l.next-iterator;
  taken : l.self-inside.taken ≡ l.fn.self.taken + 1;
  alive : AllAreKept l.next-iterator.rest.items l.self-inside.kept.kept;
  same : put_lives l.next-iterator.rest.items l.self-inside.kept.kept ≡ put_lives l.fn.nexts.items l.fn.self.connections.kept;
  count : length l.self-inside.kept.kept ≤ 4294967295;
  timed : AreTimed (λ n. is_next n l.next-iterator.rest.items ≡ false) l.self-inside.taken l.self-inside.kept.kept l.self-inside.wheel.armed;
  room : length l.self-inside.wheel.armed + TIMERS * length l.next-iterator.rest.items ≤ l.self-inside.wheel.room;
}
