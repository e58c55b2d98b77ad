use Rattle.std.proofs.Common.{[], sym, subst}
use Rattle.lane_audit.specs.Follows.{Awaits}
use Rattle.journal_audit.proofs.StartLemmas.{awaits_first}
use Rattle.journal_audit.proofs.lanes.judge_first.Goals as goal

pub judge_lane-requires-clause-awaits : goal.judge_lane-requires-clause-awaits
judge_lane-requires-clause-awaits g c =
    let own = g.R.Replay.rules c.args.lane.now in
    subst (λ journal. Awaits own journal c.in_ok-events.events) (sym c.requires.first)
    (subst (λ w. Awaits own [] w) (sym c.in_ok-events.ensures) (awaits_first c.args.name own c.args.placed.now c.requires.events))
