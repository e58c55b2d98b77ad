use Rattle.std.proofs.Common.{◌∷◌, map}
use Rattle.link_threads.proofs.RunLemmas.{all_fed, none_wait}
use Rattle.link_threads.proofs.runs.deliver_behind.Goals as goal

pub deliver_each-requires : goal.deliver_each-requires
deliver_each-requires g c =
    let left = c.args.arrival ∷ g.A.Arrivals.left c.args.link.now in
    all_fed g.L.LaneState.plan c.args.doors.now c.empty_all.new.passes c.args.arrival.stamp.link left (map (λ u. u.items) c.empty_all.new.waiting) (c.in_ok-empty_all.ensures.fed left c.requires) c.in_ok-empty_all.ensures.none

pub returns : goal.returns
returns g c =
    let left = c.args.arrival ∷ g.A.Arrivals.left c.args.link.now in
    none_wait g.L.LaneState.plan c.args.doors.now c.deliver_each.new.passes c.args.arrival.stamp.link (g.A.Arrivals.left c.args.link.now) (map (λ u. u.items) c.empty_all.new.waiting)
    (c.in_ok-empty_all.ensures.fed left c.requires).lanes c.in_ok-empty_all.ensures.none c.in_ok-deliver_each.ensures
