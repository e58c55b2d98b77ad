use Rattle.std.proofs.Common.{◌≡◌, IfOk, None, sym, subst, rules}
use Rattle.journal_form.specs.Inner.Seen.{seen_lane, seen_lanes}
use Rattle.journal_finding.specs.Finding.{journal_in}
use Rattle.journal_finding.specs.Lanes.{control_rules}
use Rattle.lane_audit.specs.Follows.{found_of}
use Rattle.journal_audit.proofs.FaultLemmas.{journal_few, others_fault}
use Rattle.journal_audit.proofs.judgement.judge_placed.Goals as goal

pub judge_others-requires-clause-few : goal.judge_others-requires-clause-few
judge_others-requires-clause-few c =
    let own = control_rules c.args.capture.now.head c.args.capture.now.phases in
    let found : journal_in own (seen_lane c.args.control.now) ≡ found_of c.judge_control.new.lane.journal None = search rules in
    journal_few own (seen_lane c.args.control.now) c.judge_control.new.lane.journal found c.requires.control

pub returns : goal.returns
returns c =
    let own = control_rules c.args.capture.now.head c.args.capture.now.phases in
    let found : journal_in own (seen_lane c.args.control.now) ≡ found_of c.judge_control.new.lane.journal None = search rules in
    subst (λ o. IfOk c.judge_others.result (λ fault. fault ≡ o))
    (sym (others_fault c.args.capture.now.head c.args.capture.now.phases (seen_lane c.args.control.now) (seen_lanes c.args.others.now) c.judge_control.new.lane.journal found))
    c.judge_others.ensures
