-- Where no node of a run gave a reference twice, none had before the last step.
use Rattle.std.specs.Prelude.{◌≡◌, ℕ, true, List, [], ◌∷◌, ◌++◌}
use Rattle.chain_step.specs.declared.step.Step.{Step}
use Rattle.chain_step.specs.Run.{run_of}
use Rattle.chain_step.specs.Fresh.{all_fresh}

abbrev pub FreshBefore : Type 0
FreshBefore = (n : ℕ) (steps : List Step) (step : Step) → all_fresh (run_of n (steps ++ step ∷ [])) ≡ true → all_fresh (run_of n steps) ≡ true
