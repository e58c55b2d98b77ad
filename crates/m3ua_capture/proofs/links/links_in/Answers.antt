use Rattle.std.proofs.Common.{◌∙◌, sym, ap}
use Rattle.toml.specs.Parse.{parse_document}
use Rattle.m3ua_capture.proofs.TextLemmas.{links-not-utf8, links-utf8}
use Rattle.m3ua_capture.proofs.links.links_in.Goals as goal

pub returns-in-Err : goal.returns-in-Err
returns-in-Err c = links-not-utf8 c.args.text.now c.in-Err.ensures.cases.0

pub returns-in-Ok-table_from_str : goal.returns-in-Ok-table_from_str
returns-in-Ok-table_from_str c =
    let text = c.in-Ok.ensures.cases in
    c.integer_at.ensures ∙ sym (links-utf8 c.args.text.now _ text.1 (ap parse_document (sym text.0) ∙ c.in-Ok-table_from_str.ensures.ok))
