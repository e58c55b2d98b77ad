use Rattle.std.proofs.Common.{[], sym, subst}
use Rattle.conn_lane.specs.Inner.Timed.{IsTimed}
use Rattle.conn_lane.proofs.Wakings.{none_wakes}
use Rattle.conn_lane.proofs.timed.TimedConnectionsStore.new.Goals as goal

pub invariant_of-result : goal.invariant_of-result
invariant_of-result c =
    subst (λ v. IsTimed 0 c.new.result.kept v.armed) (sym c.new-2.ensures) (subst (λ k. IsTimed 0 k []) (sym c.new.ensures) none_wakes)
