use Rattle.std.proofs.Common.{subst}
use Rattle.conn_journal.specs.Inner.Changes.{changed}
use Rattle.conn_journal.specs.Outcomes.{IsOutcome}
use Rattle.conn_journal.proofs.LaneGrows.{lane_stands, outcome_is}
use Rattle.conn_journal.proofs.Quiet.{kept_quiet}
use Rattle.conn_journal.proofs.journal.ConnJournal.outcome.Goals as goal

pub turn-requires-clause-quiet : goal.turn-requires-clause-quiet
turn-requires-clause-quiet g c = kept_quiet c.self.inside.head c.self.inside.number c.self.inside.journal c.self.inside.openings.state c.self.invariant

pub returns : goal.returns
returns g c =
    let i = c.self.inside in
    let turn = c.in_ok-turn.turn in
    let at = lane_stands i.head i.number i.journal i.openings.state c.self.invariant in
    subst (λ lane. IsOutcome c.args.plant.now c.args.event.now lane c.outcome_of.result) c.self.view_is
    (outcome_is c.args.plant.now i.head i.number i.journal i.openings.state (changed turn.change i.openings.state) c.args.event.now turn.asked turn.outs turn.change c.outcome_of.result
    (c.in_ok-turn.ensures.turns.comes _ at).1 (c.in_ok-turn.ensures.turns.takes _ at) c.outcome_of.ensures.outs c.outcome_of.ensures.this c.outcome_of.ensures.that)
