use Rattle.lane_replays.proofs.Scans.{AreScanned}
use Rattle.lane_replays.proofs.listed.ListedConnectionsStore.due.Given as goal

-- those of them that wake stand there
abbrev pub invariant-loop-number : goal.invariant-loop-number
invariant-loop-number l = AreScanned l.self-inside.taken l.self-inside.soonest.items l.number l.numbers.items
