use Rattle.std.proofs.Common.{List, subst}
use Rattle.relay_base.specs.declared.words.Output.{Output}
use Rattle.section_model.specs.Ends.{Connection}
use Rattle.connection_law.specs.InStep.{IsInStep}
use Rattle.section_coupling.specs.Views.{end_by}
use Rattle.section_coupling.proofs.Composed.{on-ok}
use Rattle.section_coupling.proofs.Alone.{done_alone, turns_settle}
use Rattle.section_coupling.proofs.HandsCome.{turn-come, turn-steps}
use Rattle.section_coupling.proofs.following.on_this.Goals as goal

pub exchange-requires-clause-left : goal.exchange-requires-clause-left
exchange-requires-clause-left c =
    let clock = c.args.clock.now in
    turn-come c.args.cell clock.ticks (end_by clock c.args.this.now) (end_by clock c.args.that.now) _ c.requires.steps c.in_ok-acted.ensures.turns

pub returns-clause-follows : goal.returns-clause-follows
returns-clause-follows c =
    let clock = c.args.clock.now in
    let this = end_by clock c.args.this.now in
    let that = end_by clock c.args.that.now in
    on-ok c.exchange.result (λ e. done_alone clock.ticks _ _ that c.args.outs.now _ _ (turns_settle clock.ticks c.args.cell this that) c.in_ok-acted.ensures.turns e) c.exchange.ensures.exchanged

pub returns-clause-steps : goal.returns-clause-steps
returns-clause-steps c =
    let clock = c.args.clock.now in
    let this = end_by clock c.args.this.now in
    let that = end_by clock c.args.that.now in
    on-ok c.exchange.result (λ e. subst (λ (s : Connection × List Output). IsInStep s.0)
    (done_alone clock.ticks _ _ that c.args.outs.now _ _ (turns_settle clock.ticks c.args.cell this that) c.in_ok-acted.ensures.turns e) (turn-steps c.args.cell clock.ticks this that c.requires.steps)) c.exchange.ensures.exchanged
