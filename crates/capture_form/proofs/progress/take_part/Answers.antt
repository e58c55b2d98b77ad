use Rattle.std.proofs.Common.{rules}
use Rattle.node_head.specs.Lines.{lines}
use Rattle.capture_form.specs.Capture.{fault_in}
use Rattle.capture_form.proofs.ProgressLemmas.{part-numbered, part-read, part-refused, part-within}
use Rattle.capture_form.proofs.progress.take_part.Goals as goal

pub take_reads-requires-clause-within : goal.take_reads-requires-clause-within
take_reads-requires-clause-within c = part-within c.args.head.now (lines c.requires.part.0) c.args.part c.requires.part.1

pub take_reads-requires-clause-few : goal.take_reads-requires-clause-few
take_reads-requires-clause-few c = part-numbered c.args.head.now c.args.progress.now.number (lines c.requires.part.0) c.args.part c.requires.part.1 c.requires.few

pub returns-in_err-take_reads-clause-value : goal.returns-in_err-take_reads-clause-value
returns-in_err-take_reads-clause-value c = λ octets is.
    let refused = part-refused c.args.head.now c.args.progress.now (lines octets) c.args.part (fault_in c.in_err-take_reads.field-0.0) is c.in_err-take_reads.ensures.value in
    search (rules, refused)

pub returns-clause-value : goal.returns-clause-value
returns-clause-value c = λ octets is. part-read c.args.head.now c.args.progress.now (lines octets) c.args.part c.take_reads.new.read is c.in_ok-take_reads.ensures.value
