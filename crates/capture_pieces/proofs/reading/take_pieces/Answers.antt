use Rattle.std.proofs.Common.{rules}
use Rattle.capture_pieces.proofs.ReadingLemmas.{faulty-whole, whole-capture}
use Rattle.capture_pieces.proofs.reading.take_pieces.Goals as goal

pub returns-in_err-end_capture-clause-err : goal.returns-in_err-end_capture-clause-err
returns-in_err-end_capture-clause-err g c = λ first has.
    let whole = c.in_ok-progress.ensures.ok first (c.in_ok-head.ensures.ok first has) in
    let faulty = faulty-whole first (g.S.Source.left c.take_lines.new.source) c.in_ok-head.head c.take_lines.new.feed c.in_ok-progress.progress c.in_err-end_capture.field-0.0 whole c.in_err-end_capture.ensures.value in
    search (rules, faulty)

pub returns-clause-ok : goal.returns-clause-ok
returns-clause-ok g c = λ first has.
    let whole = c.in_ok-progress.ensures.ok first (c.in_ok-head.ensures.ok first has) in
    whole-capture first (g.S.Source.left c.take_lines.new.source) c.in_ok-head.head c.take_lines.new.feed c.in_ok-progress.progress c.in_ok-end_capture.field-0 whole c.take_lines.new.feed.few c.in_ok-end_capture.ensures.value
