use Rattle.std.proofs.Common.{◌∙◌, map, string_bytes, sym, Global}
use Rattle.command_words.proofs.ParseLemmas.{refused-none}
use Rattle.command_words.proofs.reading.command_of.Goals as goal

pub returns-then-is_refused : goal.returns-then-is_refused
returns-then-is_refused c = refused-none (map (string_bytes {Z = Global}) c.args.words.now) (sym c.is_refused.ensures ∙ c.if-is_refused.true)
