use Rattle.std.proofs.Common.{rules}
use Rattle.journal_form.specs.Inner.Seen.{seen_part}
use Rattle.lane_audit.proofs.EntryLemmas.{without_stamp}
use Rattle.lane_audit.proofs.JudgeLemmas.{if-none, judged_late, judged_foreign}
use Rattle.lane_audit.proofs.judge.next_event.Goals as goal

pub returns-in_err-stamp-clause-late : goal.returns-in_err-stamp-clause-late
returns-in_err-stamp-clause-late g c =
    if-none c.from_residual.result _ (without_stamp (g.R.Replay.rules c.args.lane.now) (g.R.Replay.journal c.args.lane.now) (seen_part c.args.part.now) (search rules))

pub returns-in_err-event-clause-late : goal.returns-in_err-event-clause-late
returns-in_err-event-clause-late g c =
    if-none c.from_residual-in_err-event.result _
    (judged_late (g.R.Replay.rules c.args.lane.now) (g.R.Replay.journal c.args.lane.now) (seen_part c.args.part.now) c.args.events.now c.in_ok-stamp.stamp c.requires.awaits (search rules) (search rules))

pub returns-else-takes-clause-late : goal.returns-else-takes-clause-late
returns-else-takes-clause-late g c =
    judged_foreign (g.R.Replay.rules c.args.lane.now) (g.R.Replay.journal c.args.lane.now) (seen_part c.args.part.now) c.args.events.now c.in_ok-stamp.stamp c.requires.awaits (search rules) c.in_ok-event.event.now (search rules) (search rules)
