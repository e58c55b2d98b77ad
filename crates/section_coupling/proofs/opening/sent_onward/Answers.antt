use Rattle.std.proofs.Common.{sym, subst, ap, ◌∙◌}
use Rattle.relay_base.specs.declared.words.Output.TheVariants.{Sent}
use Rattle.q713_codec.specs.Writing.{spelling_of, InRange}
use Rattle.section_coupling.proofs.Composed.{if-ok}
use Rattle.section_coupling.proofs.opening.sent_onward.Goals as goal

pub sent-requires : goal.sent-requires
sent-requires c = subst InRange (sym (c.in_ok-message.ensures 0 0)) (c.requires 0 0)

pub returns : goal.returns
returns c =
    if-ok c.sent.result (λ output e from slr. e ∙ ap (λ m. Sent c.args.to.now.point c.args.wanted.now.sls (spelling_of m)) (c.in_ok-message.ensures from slr)) c.sent.ensures
