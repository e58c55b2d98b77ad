-- What a chain is seen as: how many nodes it has, and the steps that it took.
use Rattle.std.specs.Prelude.{ℕ, List}
use Rattle.chain_step.specs.declared.step.Step.{Step}
use Rattle.chain_step.specs.Run.{RunState, run_of}

pub record ChainState : Type 0 where
  pub nodes : ℕ
  pub steps : List Step

abbrev pub run_in : ChainState → RunState
run_in chain = run_of chain.nodes chain.steps
