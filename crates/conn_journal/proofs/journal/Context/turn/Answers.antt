use Rattle.conn_journal.proofs.journal.Context.turn.Goals as goal

pub returns-then-opens-clause-woken : goal.returns-then-opens-clause-woken
returns-then-opens-clause-woken g c = c.open.ensures.woken (g.S.Store.due c.args.openings.now.store)
