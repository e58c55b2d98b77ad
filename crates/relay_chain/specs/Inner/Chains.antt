-- What a chain keeps.
use Rattle.std.specs.Prelude.{◌≡◌, ℕ, ◌≤◌, List, length, get_or}
use Rattle.chain_step.specs.declared.step.Step.{Step}
use Rattle.chain_step.specs.Run.{NodeState, RunState, first_node, run_of}
use Rattle.passage_law.specs.Nodes.{AreSteps}

-- no journal has more entries than steps were taken
abbrev pub AreShort : ℕ → List NodeState → Type 0
AreShort taken nodes = (i : ℕ) → length (get_or nodes i (first_node 0 0)).journal ≤ taken

-- from two to eight nodes, after these steps
pub record IsChain (count : ℕ) (steps : List Step) (r : RunState) : Type 0 where
  pub least : 2 ≤ count
  pub most : count ≤ 8
  pub run : r ≡ run_of count steps
  pub taken : r.taken ≡ length steps
  pub nodes : length r.nodes ≡ count
  pub each : AreSteps count steps
