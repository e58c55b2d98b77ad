use Rattle.std.proofs.Common.{◌+◌, length, ap, ◌∙◌, arith, rules}
use Rattle.capture_form.specs.Capture.{fault_in}
use Rattle.capture_form.specs.Inner.Reader.{lines_taken}
use Rattle.capture_form.proofs.ProgressLemmas.{taken-refused}
use Rattle.capture_form.proofs.ReadLemmas.{line-done, line-refused, read-within}
use Rattle.capture_form.proofs.progress.read_lines.Goals as goal

pub take_line-requires-clause-within : goal.take_line-requires-clause-within
take_line-requires-clause-within c = read-within c.args.head.now _ c.in_ok-said.said c.in_ok-said.ensures

pub loop-line-preserved : goal.loop-line-preserved
loop-line-preserved c =
    let head = c.args.head.now in
    let all = ap (lines_taken head c.loop-line.read) c.in-Some.ensures.lines ∙ c.loop-line.invariant.taken in
    record {
      taken = line-done head c.loop-line.read c.take_line.new.read _ _ c.in_ok-said.said _ c.in_ok-said.ensures all c.in_ok-take_line.ensures.value;
      many = c.in-Some.ensures.few ∙ c.loop-line.invariant.many;
      few = omega (arith, c.loop-line.invariant.few, c.in-Some.ensures.few);
      links = c.in_ok-take_line.ensures.kept ∙ c.loop-line.invariant.links;
    }

pub returns-in_err-take_line-clause-value : goal.returns-in_err-take_line-clause-value
returns-in_err-take_line-clause-value c =
    let head = c.args.head.now in
    let fault = fault_in c.in_err-take_line.field-0.0 in
    let all = ap (lines_taken head c.loop-line.read) c.in-Some.ensures.lines ∙ c.loop-line.invariant.taken in
    let refused = line-refused head c.loop-line.read _ _ c.in_ok-said.said _ fault c.in_ok-said.ensures all c.in_err-take_line.ensures.value in
    let all-refused = taken-refused _ (c.args.first + length c.args.lines) fault refused in
    search (rules, all-refused)
