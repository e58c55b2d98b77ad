use Rattle.std.proofs.Common.{rules, ◌≡◌, ap, ◌∙◌}
use Rattle.sccp_address.specs.Form.{seen}
use Rattle.sccp_address.specs.Parsing.{address_of}
use Rattle.sccp_address.specs.Spelling.{address_spelling}
use Rattle.sccp_address.proofs.SpellingLaw.{spelling_back}
use Rattle.sccp_address.proofs.spelling.spell.Goals as goal

pub returns-clause-read_back : goal.returns-clause-read_back
unfolding address_spelling
returns-clause-read_back c =
    let value : c.put_title.new.octets ≡ address_spelling (seen c.args.address.now) = search rules in
    ap address_of value
    ∙ spelling_back (seen c.args.address.now) c.requires
    (record { point = c.in_ok-put_point.ensures.range; digits = c.in_ok-put_title.ensures.few })
