use Rattle.std.proofs.Common.{refl}
use Rattle.node_engine.proofs.phase_lanes.closed_lanes.Goals as goal

pub returns-clause-closed : goal.returns-clause-closed
returns-clause-closed g c =
    let left = c.in_ok-conns.ensures in record { control_is = refl; conns = left.conns; units = left.units; conns_seen = left.conns_seen; units_seen = left.units_seen }
