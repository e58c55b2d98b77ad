use Rattle.std.proofs.Common.{[], ◌∷◌, ◌++◌, sym, subst, ap, ◌∙◌, IsTrue}
use Rattle.chain_step.specs.Steps.{is_step}
use Rattle.chain_step.specs.Chains.{ChainState}
use Rattle.relay_chain.specs.Inner.Chains.{IsChain}
use Rattle.relay_chain.proofs.RunLemmas.{steps_more, chain_more, hops_along, texts_along}
use Rattle.relay_chain.proofs.chain.Chain.step.Goals as goal

pub invariant_of-self-2 : goal.invariant_of-self-2
invariant_of-self-2 c =
    let i = c.self.inside in
    let step = c.args.step.now in
    subst (λ steps. IsChain i.count steps c.step.new.self) (sym (c.steps_with-steps.ensures ∙ ap (λ (v : ChainState). v.steps ++ step ∷ []) (sym c.self.view_is)))
    (chain_more i.count i.steps.value i.nodes c.step.new.self step c.self.invariant
    (subst (λ (v : ChainState). IsTrue (is_step v.nodes step)) (sym c.self.view_is) c.requires.step) c.in_ok-given.ensures.ok)

pub returns-clause-hops : goal.returns-clause-hops
returns-clause-hops c =
    let i = c.self.inside in
    let step = c.args.step.now in
    let steps = c.steps_with-steps.result.value in
    let may = subst (λ (v : ChainState). IsTrue (is_step v.nodes step)) (sym c.self.view_is) c.requires.step in
    let same = c.steps_with-steps.ensures ∙ ap (λ (v : ChainState). v.steps ++ step ∷ []) (sym c.self.view_is) in
    hops_along (record { nodes = i.count; steps = steps }) (steps_more i.count i.steps.value steps step c.self.invariant.each may same) c.self.invariant.least

pub returns-clause-texts : goal.returns-clause-texts
returns-clause-texts c =
    let i = c.self.inside in
    let step = c.args.step.now in
    let steps = c.steps_with-steps.result.value in
    let may = subst (λ (v : ChainState). IsTrue (is_step v.nodes step)) (sym c.self.view_is) c.requires.step in
    let same = c.steps_with-steps.ensures ∙ ap (λ (v : ChainState). v.steps ++ step ∷ []) (sym c.self.view_is) in
    texts_along (record { nodes = i.count; steps = steps }) (steps_more i.count i.steps.value steps step c.self.invariant.each may same) c.self.invariant.least
