use Rattle.std.proofs.Common.{arith, ◌∙◌, ap, sym, Ok}
use Rattle.std.proofs.lemmas.Bool.{ne_eqb, lt-ltb}
use Rattle.sccp_address.specs.declared.address.TheConstants.{TITLE_INDICATORS}
use Rattle.sccp_address.specs.Form.{seen_title}
use Rattle.sccp_address.proofs.TitleLemmas.{is_kept-title_at, is_kept}
use Rattle.sccp_address.proofs.titles.is_other.Goals as goal

pub returns-in-Ok-Other : goal.returns-in-Ok-Other
returns-in-Ok-Other c =
    sym (is_kept-title_at c.args.gti c.args.octets.now (ne_eqb c.args.gti 0 c.if-gti-eq0.false) (lt-ltb c.args.gti TITLE_INDICATORS (omega arith)) ∙ ap is_kept (c.in-Ok-Other.ensures.value ∙ ap (λ t. Ok (seen_title t)) c.in-Ok-Other.field-0-is))
