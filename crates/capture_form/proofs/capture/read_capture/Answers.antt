use Rattle.capture_form.proofs.CaptureLemmas.{read-stamped, read-few-events}
use Rattle.capture_form.proofs.LinkLemmas.{read-linked}
use Rattle.capture_form.proofs.capture.read_capture.Goals as goal

pub returns-clause-stamped : goal.returns-clause-stamped
returns-clause-stamped c = read-stamped c.capture_within.result c.args.bytes.now c.capture_within.ensures.value

pub returns-clause-linked : goal.returns-clause-linked
returns-clause-linked c = read-linked c.capture_within.result c.args.bytes.now c.capture_within.ensures.value

pub returns-clause-few : goal.returns-clause-few
returns-clause-few c = read-few-events c.capture_within.result c.args.bytes.now c.capture_within.ensures.value
