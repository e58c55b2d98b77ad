use Rattle.std.proofs.Common.{◌≡◌, ◌∙◌, map, string_bytes, ap, Global}
use Rattle.std.proofs.lemmas.Result.{IfOk-weaker}
use Rattle.clap.specs.Words.{is_simple, subcommand_of, subcommand_rows_of, takes}
use Rattle.command_words.specs.Inner.Parser.{relay_app, command_of_rows}
use Rattle.command_words.proofs.ParseLemmas.{is_exact, found-exact, untaken-none}
use Rattle.command_words.proofs.reading.parsed.Goals as goal

pub returns-in-Ok : goal.returns-in-Ok
returns-in-Ok c =
    let words = map (string_bytes {Z = Global}) c.args.words.now in
    let app = c.in_ok-parser.ensures in
    let found : subcommand_rows_of c.in-Ok.matches ≡ subcommand_of relay_app words = (c.in-Ok.ensures.matches (ap is_simple app ∙ is_exact)).1 ∙ ap (λ a. subcommand_of a words) app in
    c.command_of_matches.ensures ∙ ap (λ r. command_of_rows r words) found ∙ found-exact words

pub returns-in-Err : goal.returns-in-Err
returns-in-Err c =
    let words = map (string_bytes {Z = Global}) c.args.words.now in
    let app = c.in_ok-parser.ensures in
    IfOk-weaker c.refusal.result _ _ (λ command h. h.0 ∙ untaken-none words (λ taken. h.1 (c.in-Err.ensures.passes (ap (λ a. takes a words) app ∙ taken)))) c.refusal.ensures
