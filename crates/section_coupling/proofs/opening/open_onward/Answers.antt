use Rattle.std.proofs.Common.{[], ◌∷◌, ap, ◌∙◌}
use Rattle.section_coupling.specs.Openings.{seen_incoming}
use Rattle.section_coupling.proofs.Fitting.{fits-from}
use Rattle.section_coupling.proofs.Composed.{composed}
use Rattle.section_coupling.proofs.opening.open_onward.Goals as goal

pub sent_onward-requires : goal.sent_onward-requires
sent_onward-requires c = λ from slr.
    fits-from (seen_incoming c.args.terms.now c.args.incoming.now) c.args.to.now.rewrite.now c.args.to.now.hop c.args.next c.requires.fits

pub returns-clause-value : goal.returns-clause-value
returns-clause-value c =
    composed c.args.now _ _ _ _ _ _ c.in_ok-this.ensures.value (c.in_ok-that.ensures.value c.args.incoming.now.point c.args.incoming.now.slr)
    (c.in_ok-outs.ensures ∙ ap (λ output. output ∷ []) (c.in_ok-sent_onward.ensures c.args.incoming.now.point c.args.incoming.now.slr))
