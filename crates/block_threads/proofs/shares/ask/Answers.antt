use Rattle.std.proofs.Common.{refl}
use Rattle.block_threads.proofs.shares.ask.Goals as goal

pub returns : goal.returns
returns g c = record { shown = c.args.item; shows = refl; says = record { met = c.f.ensures } }
