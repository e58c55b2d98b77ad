use Rattle.section_model.specs.Step.{on_windows}
use Rattle.section_class3.specs.Windows.{windows_turn}
use Rattle.connection_law.proofs.Flow.Ends.{kept_back}
use Rattle.section_coupling.specs.Views.{connection_by, ends_by}
use Rattle.section_coupling.proofs.Composed.{on-ok}
use Rattle.section_coupling.proofs.Alone.{each_done}
use Rattle.section_coupling.proofs.following.on_each.Goals as goal

pub on_this-requires-2-clause-steps : goal.on_this-requires-2-clause-steps
on_this-requires-2-clause-steps c = kept_back (ends_by c.args.clock.now c.on_this.new.this c.on_this.new.that) c.in_ok-on_this.ensures.steps

pub returns-clause-follows : goal.returns-clause-follows
returns-clause-follows c =
    let clock = c.args.clock.now in
    let part = on_windows clock.ticks (windows_turn c.args.cell) in
    on-ok c.on_this-2.result (λ e. each_done part (connection_by clock c.args.pair.now) (ends_by clock c.on_this.new.this c.on_this.new.that) (ends_by clock c.on_this-2.new.that c.on_this-2.new.this) c.args.outs.now _ _
    c.in_ok-on_this.ensures.follows e) c.on_this-2.ensures.follows

pub returns-clause-steps : goal.returns-clause-steps
returns-clause-steps c = on-ok c.on_this-2.result (λ k. kept_back (ends_by c.args.clock.now c.on_this-2.new.this c.on_this-2.new.that) k) c.on_this-2.ensures.steps
