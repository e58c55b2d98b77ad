use Rattle.section_model.specs.Timing.{firing_order}
use Rattle.section_coupling.specs.Views.{ends_by, standing}
use Rattle.section_coupling.proofs.Alone.{due_behind}
use Rattle.section_coupling.proofs.Arriving.{fired_more, fired_all}
use Rattle.section_coupling.proofs.ticking.fire_due.Goals as goal

pub loop-timer-preserved : goal.loop-timer-preserved
loop-timer-preserved c =
    let clock = c.args.clock.now in record {
      same = fired_more clock.ticks (standing clock c.loop-timer.this c.loop-timer.that c.loop-timer.outs) (standing clock c.fire_if_due.new.this c.fire_if_due.new.that c.fire_if_due.new.outs) _ firing_order
          c.loop-timer.timer-index _ c.loop-timer-test.true c.in_ok-fire_if_due.ensures.fires c.loop-timer.invariant.same;
      sound = c.in_ok-fire_if_due.ensures.sound;
    }

pub returns-clause-fires : goal.returns-clause-fires
returns-clause-fires c =
    let clock = c.args.clock.now in
    let now = standing clock c.loop-timer.this c.loop-timer.that c.loop-timer.outs in
    let before = standing clock c.args.this.now c.args.that.now c.args.outs.now in
    due_behind clock.ticks (ends_by clock c.args.this.now c.args.that.now) c.args.outs.now now
    (fired_all clock.ticks now before firing_order c.loop-timer.timer-index c.loop-timer-test.false c.loop-timer.invariant.same)
