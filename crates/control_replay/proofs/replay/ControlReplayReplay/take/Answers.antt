use Rattle.std.proofs.Common.{false, subst}
use Rattle.journal_form.specs.Inner.Seen.{seen_part}
use Rattle.journal_finding.specs.Lanes.{control_rules}
use Rattle.lane_audit.specs.Follows.{Takes}
use Rattle.control_replay.specs.Replaying.{ControlReplaying}
use Rattle.control_replay.proofs.TakeLemmas.{takes}
use Rattle.control_replay.proofs.replay.ControlReplayReplay.take.Goals as goal

pub returns-clause-taken : goal.returns-clause-taken
returns-clause-taken c =
    let capture = c.self.inside.capture.now in
    let old = c.self.inside.lane in
    let new = c.step.new.self in
    let part = seen_part c.args.part.now in
    let written = c.in_ok-is_written.is_written in
    subst (λ (r : ControlReplaying). Takes (control_rules r.head r.phases) r.journal new.journal c.args._plant.now c.args.stamp c.args.event.now part (record { asks = false; is_written = written })) c.self.view_is
    (takes capture.head capture.phases c.args.stamp c.args.event.now old new c.self.inside.collector.groups c.args._plant.now part written c.self.invariant c.in_ok-step.ensures.ok
    c.is_last_written.ensures.legal c.in_ok-is_written.ensures.written)
