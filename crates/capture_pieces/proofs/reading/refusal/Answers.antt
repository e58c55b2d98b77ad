use Rattle.capture_form.specs.Capture.{fault_in}
use Rattle.capture_pieces.proofs.ReadingLemmas.{refused-over}
use Rattle.capture_pieces.proofs.reading.refusal.Goals as goal

pub returns-in-Ok-clause-none : goal.returns-in-Ok-clause-none
returns-in-Ok-clause-none g c = λ first faulty.
    refused-over first (g.S.Source.left c.args.source.now) (g.S.Source.left c.pass_over.new.source) c.args.feed (fault_in c.args.fault) faulty (c.in-Ok.ensures.come first faulty.taken faulty.came)
