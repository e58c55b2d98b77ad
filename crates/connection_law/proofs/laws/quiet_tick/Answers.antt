use Rattle.connection_law.proofs.Timer.Openings.{quiet_tick}
use Rattle.connection_law.proofs.laws.quiet_tick.Goals as goal

pub returns : goal.returns
returns c = quiet_tick
