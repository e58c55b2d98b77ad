use Rattle.std.proofs.Common.{◌∙◌, sym}
use Rattle.q713_shape.proofs.Scanning.{options_at-zero}
use Rattle.q713_shape.proofs.reading.optional_part.Goals as goal

pub returns-then-pointer-eq0 : goal.returns-then-pointer-eq0
returns-then-pointer-eq0 c =
    options_at-zero c.args.wide c.args.bytes.now c.args.place c.args.rule.now c.in-Names.names c.in-Names.is c.requires.few (sym c.number-pointer.ensures.value ∙ c.if-pointer-eq0.true)
