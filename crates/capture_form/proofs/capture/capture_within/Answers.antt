use Rattle.std.proofs.Common.{rules}
use Rattle.capture_form.specs.Capture.{fault_in}
use Rattle.capture_form.proofs.ProgressLemmas.{within-read, within-refused}
use Rattle.capture_form.proofs.capture.capture_within.Goals as goal

pub returns-in_err-head-clause-value : goal.returns-in_err-head-clause-value
returns-in_err-head-clause-value c =
    let refused = within-refused c.args.bytes.now (fault_in c.in_err-head.field-0.0) c.in_err-head.ensures.value in
    search (rules, refused)

pub returns-clause-value : goal.returns-clause-value
returns-clause-value c = within-read c.args.bytes.now c.in_ok-head.head c.in_ok-head.progress c.end_capture.result c.in_ok-head.ensures.value c.end_capture.ensures.value
