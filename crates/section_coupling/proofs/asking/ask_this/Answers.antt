use Rattle.section_coupling.specs.Views.{end_by}
use Rattle.section_coupling.proofs.Composed.{on-ok}
use Rattle.section_coupling.proofs.Alone.{done_alone, asks_settle}
use Rattle.section_coupling.proofs.HandsCome.{ask-come}
use Rattle.section_coupling.proofs.asking.ask_this.Goals as goal

pub exchange-requires-clause-left : goal.exchange-requires-clause-left
exchange-requires-clause-left c =
    let clock = c.args.clock.now in
    let w = c.args.wanting.now in
    ask-come w.ssn w.request.now (end_by clock c.args.this.now) (end_by clock c.args.that.now) _ (c.in_ok-acted.ensures.asks clock.taken)

pub returns-clause-asks : goal.returns-clause-asks
returns-clause-asks c =
    let clock = c.args.clock.now in
    let w = c.args.wanting.now in
    let this = end_by clock c.args.this.now in
    let that = end_by clock c.args.that.now in
    on-ok c.exchange.result (λ e. done_alone clock.ticks _ _ that c.args.outs.now _ _ (asks_settle clock.ticks w.ssn w.request.now this that) (c.in_ok-acted.ensures.asks clock.taken) e) c.exchange.ensures.exchanged
