use Rattle.std.proofs.Common.{[], ◌∷◌, ◌++◌, ap, ◌∙◌}
use Rattle.relay_base.specs.declared.words.Output.TheVariants.{Told}
use Rattle.relay_base.specs.declared.words.Tell.TheVariants as tell
use Rattle.section_coupling.specs.Openings.{seen_wanted}
use Rattle.section_coupling.proofs.Opened.{user-in_range}
use Rattle.section_coupling.proofs.opening.named_and_sent.Goals as goal

pub sent_onward-requires : goal.sent_onward-requires
sent_onward-requires c = λ from slr.
    user-in_range (seen_wanted c.args.terms.now from slr c.args.outgoing.now.wanted) c.args.to.now.rewrite.now c.args.to.now.hop c.args.mine c.requires.within.called c.requires.within.calling c.requires.within.body

pub returns : goal.returns
returns c =
    c.in_ok-push.ensures.ok ∙ ap (λ outs. outs ++ c.in_ok-sent.sent ∷ []) c.in_ok-outs.ensures
    ∙ ap (λ sent. Told c.args.outgoing.now.ssn (tell.Named c.args.outgoing.now.tag c.args.mine) ∷ sent ∷ []) (c.in_ok-sent.ensures c.args.terms.now.own 0)
