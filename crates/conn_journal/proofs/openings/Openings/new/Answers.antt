use Rattle.conn_journal.proofs.Hears.{new_state}
use Rattle.conn_journal.proofs.openings.Openings.new.Goals as goal

pub returns : goal.returns
returns g c = new_state _ _ _ _ _ _ c.new-3.ensures.taken c.new-3.ensures.kept c.in_ok-slots.ensures c.in_ok-index.ensures
