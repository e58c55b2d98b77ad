use Rattle.std.proofs.Common.{sym, subst}
use Rattle.conn_lane.specs.Inner.Timed.{AreLeft, SetsTimers}
use Rattle.conn_lane.proofs.timed.put.Goals as goal

pub follow-requires-clause-before : goal.follow-requires-clause-before
follow-requires-clause-before c = subst (λ x. AreLeft c.args.taken c.args.number x c.args.wheel.now.armed) (sym c.get-before.ensures) c.requires.left

pub returns-clause-set : goal.returns-clause-set
returns-clause-set c = subst (λ x. SetsTimers c.args.taken c.args.number x c.args.wheel.now.armed c.follow.new.wheel.armed) c.as_ref.ensures.value c.follow.ensures.set
