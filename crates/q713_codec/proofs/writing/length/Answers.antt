use Rattle.std.proofs.Common.{◌∙◌, ap, length}
use Rattle.q713_codec.proofs.Arms.{is_in_range-written, spelling_of-written}
use Rattle.q713_codec.proofs.writing.length.Goals as goal

pub length-requires : goal.length-requires
length-requires c = is_in_range-written c.args.message.now _ _ (c.layout.ensures.format ∙ c.written.ensures.format) (c.layout.ensures.values ∙ c.written.ensures.values) ∙ c.requires

pub returns : goal.returns
returns c = c.length.ensures ∙ ap length (spelling_of-written c.args.message.now _ _ (c.layout.ensures.format ∙ c.written.ensures.format) (c.layout.ensures.values ∙ c.written.ensures.values))
