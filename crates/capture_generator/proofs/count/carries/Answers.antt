use Rattle.std.proofs.Common.{◌<◌, ◌∙◌, length, refl, rules}
use Rattle.capture_generator.proofs.DigitLemmas.{stops_at}
use Rattle.capture_generator.proofs.count.carries.Goals as goal

pub returns-then-digit-lt9 : goal.returns-then-digit-lt9
returns-then-digit-lt9 c =
    let within : c.loop-digit.digit-index < length c.loop-digit.digits = search rules in
    stops_at c.loop-digit.digits c.loop-digit.digit-index _ within refl c.if-digit-lt9.true ∙ c.loop-digit.invariant
