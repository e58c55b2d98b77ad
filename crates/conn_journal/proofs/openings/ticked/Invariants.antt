use Rattle.conn_journal.proofs.Reached.{Reached}
use Rattle.conn_journal.proofs.openings.ticked.Given as goal

-- the connections up to the next that wakes took the tick
abbrev pub invariant-loop-number : goal.invariant-loop-number
invariant-loop-number g l = Reached l.now (g.S.Store.kept l.store) l.numbers l.number-index l.nexts.items l.outs
