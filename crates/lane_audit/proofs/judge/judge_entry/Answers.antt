use Rattle.std.proofs.Common.{◌≡◌, IfOk, sym, subst₂, arith, rules}
use Rattle.journal_form.specs.Inner.Seen.{seen_part}
use Rattle.lane_events.specs.Pending.{taken_in}
use Rattle.lane_audit.specs.Follows.{Judges, named_by}
use Rattle.lane_audit.proofs.JudgeLemmas.{phase_there, judged_unnamed, judged_made}
use Rattle.lane_audit.proofs.judge.judge_entry.Goals as goal

pub returns-then-not-branch-clause-judges : goal.returns-then-not-branch-clause-judges
returns-then-not-branch-clause-judges g c =
    judged_unnamed (g.R.Replay.rules c.args.lane.now) (g.R.Replay.journal c.args.lane.now) (seen_part c.args.part.now) c.args.events.now c.in-Some.stamp c.requires.awaits c.in-Some.event.now (search rules) c.args.editions.now c.requires.names (search rules)

pub returns-clause-judges : goal.returns-clause-judges
returns-clause-judges g c =
    let own = g.R.Replay.rules c.args.lane.now in
    let journal = g.R.Replay.journal c.args.lane.now in
    let after = g.R.Replay.journal c.judge_made.new.lane in
    let part = seen_part c.args.part.now in
    let made = judged_made own journal part c.args.events.now c.in-Some.stamp c.requires.awaits c.in-Some.event.now (search rules) c.args.editions.now c.requires.names
    after c.plant.result.now c.judge_made.result c.judge_made.ensures.made (search rules) (search rules) (search rules) in
    let waits : c.next_event.new.events ≡ taken_in c.args.events.now c.in-Some.stamp = search rules in
    let named : c.may_name.new.editions ≡ named_by c.args.editions.now c.in-Some.stamp.phase part.words.asked = search rules in
    subst₂ (λ w s. IfOk c.judge_made.result (Judges own journal after part w s)) (sym waits) (sym named) made

pub may_name-requires-clause-phase : goal.may_name-requires-clause-phase
may_name-requires-clause-phase g c =
    let within = phase_there (g.R.Replay.rules c.args.lane.now) (g.R.Replay.journal c.args.lane.now) (seen_part c.args.part.now) c.args.events.now c.in-Some.stamp c.requires.awaits c.in-Some.event.now (search rules) in
    omega (arith, within, c.requires.names.phases)
