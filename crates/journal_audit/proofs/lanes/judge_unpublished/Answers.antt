use Rattle.std.proofs.Common.{◌≡◌, ◌∙◌, [], IfOk, map, ap, sym, subst, refl}
use Rattle.journal_form.specs.Inner.Seen.{seen_lane}
use Rattle.journal_finding.specs.Finding.{journal_in}
use Rattle.journal_finding.specs.Lanes.{control_rules}
use Rattle.right_book.specs.Placed.{in_control, placed}
use Rattle.lane_events.specs.declared.placing.Lane.TheVariants.{Control}
use Rattle.lane_events.specs.Placing.{kept}
use Rattle.lane_audit.specs.Follows.{Names, found_of}
use Rattle.control_replay.specs.Replaying.{ControlReplaying}
use Rattle.journal_audit.proofs.StartLemmas.{phases_kept, none_few, none_named}
use Rattle.journal_audit.proofs.lanes.judge_unpublished.Goals as goal

pub judge_first-requires-clause-events : goal.judge_first-requires-clause-events
judge_first-requires-clause-events c =
    ap (map (map (kept Control))) c.requires.placed
    ∙ phases_kept Control c.args.capture.now.head c.args.capture.now.phases
    ∙ ap (λ (s : ControlReplaying). placed in_control s.head s.phases) (sym c.requires.lane)

pub judge_first-requires-clause-names : goal.judge_first-requires-clause-names
judge_first-requires-clause-names c =
    subst (λ (s : ControlReplaying). Names (control_rules s.head s.phases) [] c.new-editions.result) (sym c.requires.lane)
    (none_named c.args.capture.now.head c.args.capture.now.phases c.args.before.now c.requires.before
    c.new-editions.result c.in_ok-plant.plant.routing [] c.new-editions.ensures c.in_ok-plant.ensures.routing refl)

pub returns-clause-found : goal.returns-clause-found
returns-clause-found c =
    subst (λ (s : ControlReplaying). IfOk c.judge_first.result (λ fault. journal_in (control_rules s.head s.phases) (seen_lane c.args.form.now) ≡ found_of c.judge_first.new.lane.journal fault))
    c.requires.lane c.judge_first.ensures.found

pub new-editions-requires-clause-few : goal.new-editions-requires-clause-few
new-editions-requires-clause-few c = none_few c.args.capture.now.head c.args.capture.now.phases c.args.before.now c.requires.before [] refl
