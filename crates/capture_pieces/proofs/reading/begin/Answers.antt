use Rattle.std.proofs.Common.{[], sym, ap, subst, ◌∙◌, rules}
use Rattle.relay_base.specs.Giving.{RefusesOrMemory}
use Rattle.capture_form.specs.Capture.{fault_in}
use Rattle.capture_form.specs.Inner.Progress.{capture_begun}
use Rattle.capture_pieces.proofs.ReadingLemmas.{faulty-head, reads-to, stops-reading}
use Rattle.capture_pieces.proofs.reading.begin.Goals as goal

pub returns-in_err-whole-clause-err : goal.returns-in_err-whole-clause-err
returns-in_err-whole-clause-err g c = λ first has.
    let stops = stops-reading first (g.S.Source.left c.with_mark.new.source) c.with_mark.new.self [] c.in_err-whole.field-0.0 (c.in_err-whole.ensures.come first [] has) in
    search (rules, stops)

pub returns-in_err-begun-clause-err : goal.returns-in_err-begun-clause-err
returns-in_err-begun-clause-err g c = λ first has.
    let feed = c.with_mark.new.self in
    let fault = fault_in c.in_err-begun.field-0.0 in
    let refused = subst (λ octets. RefusesOrMemory fault (capture_begun octets)) c.front.ensures c.in_err-begun.ensures.value in
    let faulty = faulty-head first (g.S.Source.left c.with_mark.new.source) feed c.in_ok-whole.whole fault c.in_ok-whole.ensures.whole c.in_ok-whole.ensures.mark (c.in_ok-whole.ensures.come first [] has) refused in
    search (rules, faulty)

pub returns-clause-ok : goal.returns-clause-ok
returns-clause-ok g c = λ first has.
    let feed = c.with_mark.new.self in
    let begun = c.in_ok-begun.begun in
    reads-to first (g.S.Source.left c.with_mark.new.source) begun.0 begun.1 feed c.go_on.new.self c.in_ok-whole.whole c.in_ok-whole.ensures.whole c.in_ok-whole.ensures.mark (c.in_ok-whole.ensures.come first [] has)
    (ap capture_begun (sym c.front.ensures) ∙ c.in_ok-begun.ensures.value) c.in_ok-go_on.ensures.text c.in_ok-go_on.ensures.came c.in_ok-go_on.ensures.ended
