use Rattle.section_coupling.proofs.Composed.{on-ok}
use Rattle.section_coupling.proofs.Arriving.{followed}
use Rattle.section_coupling.proofs.following.follow.Goals as goal

pub returns-clause-follows : goal.returns-clause-follows
returns-clause-follows c = on-ok c.on_each-2.result (λ e. followed c.args.clock.now.ticks _ _ _ c.in_ok-on_each.ensures.follows e) c.on_each-2.ensures.follows
