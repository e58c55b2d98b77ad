use Rattle.std.proofs.Common.{◌≡◌, length, take}
use Rattle.local_refs.specs.Slots.{free_references}
use Rattle.conn_journal.proofs.openings.Openings.lowest_free.Given as goal

-- so many were found
abbrev pub invariant-loop-at : goal.invariant-loop-at
invariant-loop-at g l = (l.lowest ≡ take l.at (free_references l.self.state.slots)) × (length l.lowest ≡ l.at)
