use Rattle.section_coupling.specs.Views.{end_by}
use Rattle.section_coupling.proofs.Composed.{on-ok}
use Rattle.section_coupling.proofs.Alone.{done_alone, hears_settle}
use Rattle.section_coupling.proofs.hearing.hear_at_this.Goals as goal

pub exchange-requires-clause-left : goal.exchange-requires-clause-left
exchange-requires-clause-left c = c.in_ok-acted.ensures.left (end_by c.args.clock.now c.args.that.now)

pub returns-clause-hears : goal.returns-clause-hears
returns-clause-hears c =
    let clock = c.args.clock.now in
    let this = end_by clock c.args.this.now in
    let that = end_by clock c.args.that.now in
    on-ok c.exchange.result (λ e. done_alone clock.ticks _ _ that c.args.outs.now _ _ (hears_settle clock c.args.coming.now this that) c.in_ok-acted.ensures.hears e) c.exchange.ensures.exchanged
