-- What a chain is seen as after the step of a line.
use Rattle.std.specs.Prelude.{[], ◌∷◌, ◌++◌}
use Rattle.chain_step.specs.Chains.{ChainState}
use Rattle.chain_form.specs.declared.reading.StepLine.{StepLine}

abbrev pub after_line : ChainState → StepLine → ChainState
after_line chain line = record chain { steps = chain.steps ++ line.step ∷ [] }
