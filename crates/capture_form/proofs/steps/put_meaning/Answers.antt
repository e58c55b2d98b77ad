use Rattle.std.proofs.Common.{◌-◌, length, sym, ap, ◌∙◌}
use Rattle.capture_form.specs.Inner.Reader.{IsWithin, at_line}
use Rattle.capture_form.proofs.ReadLemmas.{placed-fact}
use Rattle.capture_form.proofs.steps.put_meaning.Goals as goal

pub take_meaning-requires-clause-within : goal.take_meaning-requires-clause-within
take_meaning-requires-clause-within c =
    placed-fact (IsWithin (length c.args.read.now.current - 1)) c.args.read.now.line c.args.stands c.args.form c.in_ok-meaning.meaning
    (ap (at_line c.args.read.now.line) (sym c.placed.ensures) ∙ c.in_ok-meaning.ensures) c.requires.within
