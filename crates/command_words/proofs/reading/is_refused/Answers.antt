use Rattle.std.proofs.Common.{◌∙◌, ◌||◌, map, string_bytes, sym, ap, Global}
use Rattle.command_words.specs.Inner.Parser.{is_dashed, asks_help}
use Rattle.command_words.proofs.ParseLemmas.{any_map}
use Rattle.command_words.proofs.reading.is_refused.Goals as goal

pub returns-then-has_dashed : goal.returns-then-has_dashed
returns-then-has_dashed c =
    let words = map (string_bytes {Z = Global}) c.args.words.now in
    let dashed = sym (any_map is_dashed (string_bytes {Z = Global}) c.args.words.now) ∙ sym c.has_dashed.ensures in
    c.if-has_dashed.true ∙ sym (ap (λ b. b || asks_help words) (dashed ∙ c.if-has_dashed.true))

pub returns-else-has_dashed : goal.returns-else-has_dashed
returns-else-has_dashed c =
    let words = map (string_bytes {Z = Global}) c.args.words.now in
    let dashed = sym (any_map is_dashed (string_bytes {Z = Global}) c.args.words.now) ∙ sym c.has_dashed.ensures in
    c.asks_help.ensures ∙ sym (ap (λ b. b || asks_help words) (dashed ∙ c.if-has_dashed.false))
