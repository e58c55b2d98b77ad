use Rattle.std.proofs.Common.{◌≡◌, ◌+◌, ◌*◌, drop, fold}
use Rattle.section_model.specs.Coupling.{exchange, other_takes}
use Rattle.section_coupling.specs.Views.{end_by, standing}
use Rattle.section_coupling.specs.Sound.{AreSound, SoundHands, AreOfWhatCame}
use Rattle.section_coupling.proofs.coupling.+exchange.Given as goal

abbrev pub decreases-exchange : goal.decreases-exchange
decreases-exchange l = 2 * l.turns

abbrev pub decreases-offer : goal.decreases-offer
decreases-offer l = 2 * l.turns + 1

-- what the effects to come make of the ends and the outputs so far is what all make of those at first
abbrev pub invariant-offer-loop-hand : goal.invariant-offer-loop-hand
invariant-offer-loop-hand l = record {
  same : fold (other_takes (exchange l.turns l.clock.ticks) l.clock.ticks) (standing l.clock l.this l.that l.outs) (drop l.hand-index l.hands) ≡ fold (other_takes (exchange l.turns l.clock.ticks) l.clock.ticks) (standing l.clock l.fn.this l.fn.that l.fn.outs) l.hands;
  sound : AreSound l.this l.that;
  hands : SoundHands (drop l.hand-index l.hands);
  left : AreOfWhatCame (end_by l.clock l.this) (drop l.hand-index l.hands) (end_by l.clock l.that);
}
