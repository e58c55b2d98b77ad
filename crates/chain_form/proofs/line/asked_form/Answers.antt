use Rattle.std.proofs.Common.{◌≡◌, Ok}
use Rattle.std.specs.Cmp.Derive.{both_true}
use Rattle.capture_form.specs.Inner.Words.{texts}
use Rattle.capture_form.specs.Requests.{request_of}
use Rattle.chain_form.specs.Line.{whole}
use Rattle.chain_form.proofs.AskLemmas.{asked_askable}
use Rattle.chain_form.proofs.line.asked_form.Goals as goal

pub returns-clause-step : goal.returns-clause-step
returns-clause-step c =
    let words = texts c.args.words.now in
    let asked : request_of c.args.form (whole c.args.form words) ≡ Ok c.in_ok-request.request =
    cc (c.in_ok-request.ensures, c.in_ok-whole.ensures, c.as_slice-2.ensures.value) in
    both_true c.in_ok-node.ensures.end (asked_askable c.args.form words c.in_ok-request.request c.requires asked)
