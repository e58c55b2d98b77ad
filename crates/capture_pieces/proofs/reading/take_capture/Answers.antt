use Rattle.std.proofs.Common.{Ok, subst}
use Rattle.capture_form.proofs.CaptureLemmas.{read-few-events, read-stamped}
use Rattle.capture_form.proofs.LinkLemmas.{read-linked}
use Rattle.capture_pieces.specs.Inner.Reading.{Stops}
use Rattle.capture_pieces.proofs.ReadingLemmas.{comes-none, states-whole, stops-none}
use Rattle.capture_pieces.proofs.reading.take_capture.Goals as goal

pub returns-in-Ok-clause-ok : goal.returns-in-Ok-clause-ok
returns-in-Ok-clause-ok g c =
    let first = g.S.Source.left c.args.source.now in
    let has = comes-none first c.new-feed.result c.new-feed.ensures.text c.new-feed.ensures.came c.new-feed.ensures.ended in
    states-whole first (g.S.Source.left c.take_pieces.new.source) c.in-Ok.capture (c.in-Ok.ensures.ok first has)

pub returns-in-Ok-clause-stamped : goal.returns-in-Ok-clause-stamped
returns-in-Ok-clause-stamped g c =
    let first = g.S.Source.left c.args.source.now in
    let whole = c.in-Ok.ensures.ok first (comes-none first c.new-feed.result c.new-feed.ensures.text c.new-feed.ensures.came c.new-feed.ensures.ended) in
    read-stamped (Ok c.in-Ok.capture) whole.all whole.read

pub returns-in-Ok-clause-linked : goal.returns-in-Ok-clause-linked
returns-in-Ok-clause-linked g c =
    let first = g.S.Source.left c.args.source.now in
    let whole = c.in-Ok.ensures.ok first (comes-none first c.new-feed.result c.new-feed.ensures.text c.new-feed.ensures.came c.new-feed.ensures.ended) in
    read-linked (Ok c.in-Ok.capture) whole.all whole.read

pub returns-in-Ok-clause-few : goal.returns-in-Ok-clause-few
returns-in-Ok-clause-few g c =
    let first = g.S.Source.left c.args.source.now in
    let whole = c.in-Ok.ensures.ok first (comes-none first c.new-feed.result c.new-feed.ensures.text c.new-feed.ensures.came c.new-feed.ensures.ended) in
    read-few-events (Ok c.in-Ok.capture) whole.all whole.read

pub returns-in-Err-Capture-clause-err : goal.returns-in-Err-Capture-clause-err
returns-in-Err-Capture-clause-err g c =
    let first = g.S.Source.left c.args.source.now in
    let has = comes-none first c.new-feed.result c.new-feed.ensures.text c.new-feed.ensures.came c.new-feed.ensures.ended in
    let stops = subst (Stops first (g.S.Source.left c.take_pieces.new.source) c.take_pieces.new.feed) c.in-Err-Capture.field-0-is (c.in-Err-Capture.ensures.err first has) in
    c.refusal.ensures.none first stops

pub returns-in-Err-Read-clause-err : goal.returns-in-Err-Read-clause-err
returns-in-Err-Read-clause-err g c =
    let first = g.S.Source.left c.args.source.now in
    let has = comes-none first c.new-feed.result c.new-feed.ensures.text c.new-feed.ensures.came c.new-feed.ensures.ended in
    let stops = subst (Stops first (g.S.Source.left c.take_pieces.new.source) c.take_pieces.new.feed) c.in-Err-Read.field-0-is (c.in-Err-Read.ensures.err first has) in
    stops-none first (g.S.Source.left c.take_pieces.new.source) c.take_pieces.new.feed c.in-Err-Read.fault stops
