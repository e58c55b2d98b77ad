-- What is kept of the openings is all that a lane needs of them.
use Rattle.conn_journal.specs.Laws.{KeepsAll}
use Rattle.conn_journal.proofs.After.{keeps_after}
use Rattle.conn_journal.proofs.Free.{keeps_free}
use Rattle.conn_journal.proofs.Heard.{keeps_heard, keeps_ticked}

pub keeps_all : KeepsAll
keeps_all = record { after = keeps_after; free = keeps_free; heard = keeps_heard; ticked = keeps_ticked }
