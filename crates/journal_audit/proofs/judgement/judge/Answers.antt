use Rattle.std.proofs.Common.{◌≡◌, ◌∙◌, length, Some, ap, sym, subst, rules}
use Rattle.std.proofs.lemmas.List.{length-map}
use Rattle.journal_form.specs.Form.{lane_lines, form_fault}
use Rattle.journal_form.specs.Inner.Seen.{seen_lane, seen_lanes}
use Rattle.journal_form.specs.Parts.{HasForm}
use Rattle.journal_audit.specs.Audit.{IsFinding}
use Rattle.journal_audit.specs.Inner.Judging.{AreShort}
use Rattle.journal_audit.proofs.EndLemmas.{lanes_many, lanes_short}
use Rattle.journal_audit.proofs.FaultLemmas.{form_told, lanes_told}
use Rattle.journal_audit.proofs.judgement.judge.Goals as goal

pub returns-in-Err-Fault : goal.returns-in-Err-Fault
returns-in-Err-Fault c =
    let head = c.args.capture.now.head in
    let fault : form_fault (lane_lines head.conn_lanes head.data_lanes) c.args.text.now ≡ Some c.in-Err-Fault.line = search rules in
    let here = form_told head c.args.capture.now.phases c.args.text.now c.in-Err-Fault.line fault in
    search (rules, here)

pub judge_lanes-requires-clause-count : goal.judge_lanes-requires-clause-count
judge_lanes-requires-clause-count c =
    let forms = c.in-Ok.form.lanes.items in
    let head = c.args.capture.now.head in
    ap length c.as_slice.ensures.value ∙ sym (length-map forms seen_lane) ∙ lanes_many head.conn_lanes head.data_lanes c.args.text.now (seen_lanes forms) c.in-Ok.ensures.form

pub judge_lanes-requires-clause-short : goal.judge_lanes-requires-clause-short
judge_lanes-requires-clause-short c =
    let head = c.args.capture.now.head in
    subst (λ forms. AreShort (seen_lanes forms)) (sym c.as_slice.ensures.value)
    (lanes_short (lane_lines head.conn_lanes head.data_lanes) c.args.text.now (seen_lanes c.in-Ok.form.lanes.items) c.in-Ok.ensures.form c.requires.few)

pub returns : goal.returns
returns c =
    let head = c.args.capture.now.head in
    let form = subst (λ forms. HasForm (lane_lines head.conn_lanes head.data_lanes) c.args.text.now (seen_lanes forms)) (sym c.as_slice.ensures.value) c.in-Ok.ensures.form in
    subst (IsFinding head c.args.capture.now.phases c.args.text.now) (sym c.told.ensures)
    (lanes_told head c.args.capture.now.phases c.args.text.now (seen_lanes c.as_slice.result.now) c.in_ok-fault.fault form c.in_ok-fault.ensures)
