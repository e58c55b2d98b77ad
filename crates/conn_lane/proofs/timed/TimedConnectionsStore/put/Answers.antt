use Rattle.std.proofs.Common.{None, get_or, sym, subst, ap, ◌∙◌, arith}
use Rattle.std.specs.Prelude.{is_some}
use Rattle.conn_lane.specs.Inner.Timed.{IsTimed}
use Rattle.conn_journal.proofs.Puts.{kept_within}
use Rattle.conn_lane.proofs.Wakings.{timed_left, heard_timed}
use Rattle.conn_lane.proofs.timed.TimedConnectionsStore.put.Goals as goal

pub put-requires-clause-number : goal.put-requires-clause-number
put-requires-clause-number c = omega (arith, c.requires.opened, kept_within c.args.self.now.connections.kept c.args.number c.requires.alive)

pub put-requires-clause-left : goal.put-requires-clause-left
put-requires-clause-left c = timed_left c.self.inside.taken c.args.number c.self.inside.kept.kept c.self.inside.wheel.armed c.self.invariant

pub invariant_of-self : goal.invariant_of-self
invariant_of-self c =
    let i = c.self.inside in
    let within = kept_within i.kept.kept c.args.number (ap (λ v. is_some (get_or v.connections.kept c.args.number None)) c.self.view_is ∙ c.requires.alive) in
    subst (λ k. IsTimed i.taken k c.put.new.wheel.armed) (sym c.put.ensures.kept)
    (heard_timed i.taken c.args.number i.kept.kept c.args.one i.wheel.armed c.put.new.wheel.armed within c.put.ensures.set c.self.invariant)
