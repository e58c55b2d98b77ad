use Rattle.std.proofs.Common.{◌≡◌, drop, fold}
use Rattle.section_model.specs.Step.{fires_next}
use Rattle.section_model.specs.Timing.{firing_order}
use Rattle.section_coupling.specs.Views.{standing}
use Rattle.section_coupling.specs.Sound.{AreSound}
use Rattle.section_coupling.proofs.ticking.fire_due.Given as goal

-- what the timers to come make of the ends and the outputs so far is what all make of those at first
abbrev pub invariant-loop-timer : goal.invariant-loop-timer
invariant-loop-timer l = record {
  same : fold (fires_next l.clock.ticks) (standing l.clock l.this l.that l.outs) (drop l.timer-index firing_order) ≡ fold (fires_next l.clock.ticks) (standing l.clock l.fn.this l.fn.that l.fn.outs) firing_order;
  sound : AreSound l.this l.that;
}
