use Rattle.std.proofs.Common.{◌∙◌}
use Rattle.q713_codec.proofs.Arms.{is_in_range-written}
use Rattle.q713_codec.proofs.writing.Message.in_range.Goals as goal

pub returns : goal.returns
returns c = c.fits.ensures ∙ is_in_range-written c.args.self.now _ _ (c.layout.ensures.format ∙ c.written.ensures.format) (c.layout.ensures.values ∙ c.written.ensures.values)
