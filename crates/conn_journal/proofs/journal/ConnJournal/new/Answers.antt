use Rattle.std.proofs.Common.{[], sym, subst}
use Rattle.conn_journal.specs.Inner.Turns.{IsConnLane}
use Rattle.conn_journal.proofs.LaneGrows.{lane_begins}
use Rattle.conn_journal.proofs.journal.ConnJournal.new.Goals as goal

pub invariant_of-result : goal.invariant_of-result
invariant_of-result g c =
    subst (λ head. IsConnLane head c.args.number c.new-2.result c.in_ok-openings.openings.state) (sym c.in_ok-head.ensures)
    (subst (λ journal. IsConnLane c.args.head.now c.args.number journal c.in_ok-openings.openings.state) (sym c.new-2.ensures)
    (subst (IsConnLane c.args.head.now c.args.number []) (sym c.in_ok-openings.ensures) (lane_begins c.args.head.now c.args.number c.requires.number c.requires.credit)))
