use Rattle.std.proofs.Common.{sym, subst}
use Rattle.relay_chain.specs.Inner.Chains.{IsChain}
use Rattle.relay_chain.proofs.RunLemmas.{chain_begins}
use Rattle.relay_chain.proofs.chain.Chain.new.Goals as goal

pub invariant_of-result : goal.invariant_of-result
invariant_of-result c =
    subst (λ steps. IsChain c.args.nodes steps c.in_ok-new.field-0) (sym c.no_steps.ensures)
    (chain_begins c.args.nodes c.in_ok-new.field-0 c.requires.least c.requires.most c.in_ok-new.ensures)
