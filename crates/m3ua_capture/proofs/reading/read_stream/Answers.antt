use Rattle.m3ua_capture.proofs.CaptureLemmas.{within-given-ok}
use Rattle.m3ua_capture.proofs.reading.read_stream.Goals as goal

pub returns-clause-stamped : goal.returns-clause-stamped
returns-clause-stamped c = within-given-ok c.args.bytes.now _ c.capture_within.result (λ k one. one.stamped) c.capture_within.ensures.value

pub returns-clause-linked : goal.returns-clause-linked
returns-clause-linked c = within-given-ok c.args.bytes.now _ c.capture_within.result (λ k one. one.linked) c.capture_within.ensures.value

pub returns-clause-few : goal.returns-clause-few
returns-clause-few c = within-given-ok c.args.bytes.now _ c.capture_within.result (λ k one. one.few) c.capture_within.ensures.value
