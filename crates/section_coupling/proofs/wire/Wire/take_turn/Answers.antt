use Rattle.std.proofs.Common.{refl}
use Rattle.section_coupling.specs.Views.{section_at}
use Rattle.section_coupling.proofs.Arriving.{in_time}
use Rattle.section_coupling.proofs.wire.Wire.take_turn.Goals as goal

pub returns-clause-acts : goal.returns-clause-acts
returns-clause-acts c =
    let x = section_at c.args.clock.now.taken c.args.self.now in
    in_time c.args.clock.now.ticks x _ _ _ _ _ refl (c.in_ok-acted.ensures.acts c.args.clock.now.taken) c.state-old.ensures c.set_timers.ensures.timers
