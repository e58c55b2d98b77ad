use Rattle.std.proofs.Common.{sym, subst}
use Rattle.conn_journal.specs.Inner.Changes.{changed}
use Rattle.conn_journal.specs.Inner.Grown.{Comes}
use Rattle.conn_journal.proofs.journal.Context.entry.Goals as goal

pub returns-clause-grows : goal.returns-clause-grows
returns-clause-grows g c =
    λ keeps at.
    let o = c.args.openings.now.state in
    let turn = c.in_ok-change.field-0 in
    subst (λ outs. Comes c.args.plant.now c.args.self.now.head.now c.args.self.now.number c.args.event keeps o (changed turn.change o) turn.asked outs)
    (sym c.fitted.ensures) (c.in_ok-change.ensures.turns.comes keeps at).1

pub returns-clause-fits : goal.returns-clause-fits
returns-clause-fits g c = λ keeps at. (c.in_ok-change.ensures.turns.comes keeps at).0
