use Rattle.std.proofs.Common.{◌≡◌, ◌∙◌, codes, map, string_bytes, sym, ap, Some, Global}
use Rattle.clap.specs.Words.{found_of, rows_of, subcommand_rows_of}
use Rattle.clap.proofs.WalkLemmas.{first_value-rows}
use Rattle.command_words.specs.Inner.Parser.{command_of_rows}
use Rattle.command_words.proofs.ParseLemmas.{rows-are, found-alike}
use Rattle.command_words.proofs.reading.command_of_matches.Goals as goal

pub returns : goal.returns
returns c =
    let name = c.in_ok-name.name.now in
    let found = found_of c.in_ok-name.found.now in
    let words = map (string_bytes {Z = Global}) c.args.words.now in
    let rows : subcommand_rows_of c.args.matches.now ≡ Some (name, rows_of found) = rows-are c.args.matches.now name (rows_of found) c.in_ok-name.ensures.name c.in_ok-name.ensures.rows in
    c.command_found.ensures
    ∙ found-alike name words _ _ _ _ _ _
    (c.get_str-number.ensures ∙ first_value-rows found (codes "number"))
    (c.get_str-lines.ensures ∙ first_value-rows found (codes "lines"))
    (c.get_str.ensures ∙ first_value-rows found (codes "output"))
    ∙ ap (λ r. command_of_rows r words) (sym rows)
