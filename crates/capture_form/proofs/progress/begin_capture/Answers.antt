use Rattle.std.proofs.Common.{◌+◌, ◌≤◌, length, arith}
use Rattle.capture_form.proofs.LengthLemmas.{most-lines}
use Rattle.capture_form.proofs.progress.begin_capture.Goals as goal

pub overflow_cast-count : goal.overflow_cast-count
overflow_cast-count c =
    let most : c.in_ok-head.count + 2 + length c.head_part.new.lines ≤ length c.args.octets.now + 1 =
    most-lines c.args.octets.now c.lines-lines.result c.head_part.new.lines c.in_ok-head.head c.in_ok-head.count c.lines-lines.ensures.value c.in_ok-head.ensures.value in
    omega (arith, c.requires.few)

pub overflow_add-count : goal.overflow_add-count
overflow_add-count c =
    let most : c.in_ok-head.count + 2 + length c.head_part.new.lines ≤ length c.args.octets.now + 1 =
    most-lines c.args.octets.now c.lines-lines.result c.head_part.new.lines c.in_ok-head.head c.in_ok-head.count c.lines-lines.ensures.value c.in_ok-head.ensures.value in
    omega (arith, c.requires.few)

pub read_lines-requires : goal.read_lines-requires
read_lines-requires c =
    let most = most-lines c.args.octets.now c.lines-lines.result c.head_part.new.lines c.in_ok-head.head c.in_ok-head.count c.lines-lines.ensures.value c.in_ok-head.ensures.value in
    record { few = omega (arith, c.requires.few, most) }

pub returns-clause-number : goal.returns-clause-number
returns-clause-number c =
    omega (
      arith,
      c.in_ok-progress.ensures.number,
      most-lines c.args.octets.now c.lines-lines.result c.head_part.new.lines c.in_ok-head.head c.in_ok-head.count c.lines-lines.ensures.value c.in_ok-head.ensures.value,
    )
