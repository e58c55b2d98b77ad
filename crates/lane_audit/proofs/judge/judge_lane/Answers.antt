use Rattle.std.proofs.Common.{◌+◌, rules, arith}
use Rattle.journal_form.specs.Inner.Seen.{seen_lane}
use Rattle.journal_form.specs.Parts.{lane_size}
use Rattle.lane_audit.proofs.LaneLemmas.{found_all, found_left}
use Rattle.lane_audit.proofs.judge.judge_lane.Goals as goal

pub returns-then-all_taken-clause-found : goal.returns-then-all_taken-clause-found
returns-then-all_taken-clause-found g c =
    found_all (g.R.Replay.rules c.args.lane.now) (c.args.form.now.number + lane_size (seen_lane c.args.form.now)) (g.R.Replay.journal c.args.lane.now) (g.R.Replay.journal c.loop-part.lane) c.args.form.now.entries.items c.loop-part.part-index c.loop-part.events
    c.loop-part.invariant.found (search (rules, arith)) c.loop-part.invariant.awaits (search rules)

pub returns-clause-found : goal.returns-clause-found
returns-clause-found g c =
    found_left (g.R.Replay.rules c.args.lane.now) (c.args.form.now.number + lane_size (seen_lane c.args.form.now)) (g.R.Replay.journal c.args.lane.now) (g.R.Replay.journal c.loop-part.lane) c.args.form.now.entries.items c.loop-part.part-index c.end_of.result c.loop-part.events
    c.loop-part.invariant.found (search (rules, arith)) c.loop-part.invariant.awaits (search rules) c.end_of.ensures
