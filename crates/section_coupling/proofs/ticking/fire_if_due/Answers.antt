use Rattle.std.proofs.Common.{sym, ◌∙◌}
use Rattle.section_coupling.specs.Views.{end_by, ends_by}
use Rattle.section_coupling.proofs.Composed.{on-ok}
use Rattle.section_coupling.proofs.Alone.{done_alone, fires_settle, due_fires}
use Rattle.section_coupling.proofs.HandsCome.{fire-come}
use Rattle.section_coupling.proofs.ticking.fire_if_due.Goals as goal

pub exchange-requires-clause-left : goal.exchange-requires-clause-left
exchange-requires-clause-left c =
    let clock = c.args.clock.now in
    fire-come clock.ticks c.args.timer (end_by clock c.args.this.now) (end_by clock c.args.that.now) _ c.in_ok-acted.ensures.fires

pub returns-clause-fires : goal.returns-clause-fires
returns-clause-fires c =
    let clock = c.args.clock.now in
    let this = end_by clock c.args.this.now in
    let that = end_by clock c.args.that.now in
    on-ok c.exchange.result (λ e. due_fires clock.ticks c.args.timer (ends_by clock c.args.this.now c.args.that.now) c.args.outs.now _ (sym c.is_due.ensures ∙ c.if-not-is_due.false)
    (done_alone clock.ticks _ _ that c.args.outs.now _ _ (fires_settle clock.ticks c.args.timer this that) c.in_ok-acted.ensures.fires e)) c.exchange.ensures.exchanged
