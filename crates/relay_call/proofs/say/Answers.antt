use Rattle.relay_call.proofs.OutcomeLemmas.{Says-written}
use Rattle.relay_call.proofs.say.Goals as goal

pub returns : goal.returns
returns g c = Says-written c.write_all.result _ _ _ _ c.write_all.ensures.ok c.write_all.ensures.err c.write_all.ensures.cause
