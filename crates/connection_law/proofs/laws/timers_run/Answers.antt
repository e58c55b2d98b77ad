use Rattle.connection_law.proofs.Timer.Openings.{timers_run}
use Rattle.connection_law.proofs.laws.timers_run.Goals as goal

pub returns : goal.returns
returns c = timers_run
