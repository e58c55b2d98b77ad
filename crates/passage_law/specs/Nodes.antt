-- What each node in a row is, whatever steps were taken.
use Rattle.std.specs.Prelude.{IsTrue, ◌≡◌, ℕ, ◌≤◌, List}
use Rattle.std.specs.List.{AllByRecursion}
use Rattle.plant_core.specs.Asking.{asked_at}
use Rattle.plant_core.specs.declared.entry.Entry.{Entry}
use Rattle.section_model.specs.Opening.{wish_of, question_of}
use Rattle.section_model.specs.Journals.{IsConnJournal}
use Rattle.chain_step.specs.declared.step.Step.{Step}
use Rattle.chain_step.specs.Run.{NodeState, head_of, routing_of, node_at, run_of}
use Rattle.chain_step.specs.Steps.{is_step}

-- steps that n nodes can take
abbrev pub AreSteps : ℕ → List Step → Type 0
AreSteps n steps = AllByRecursion (λ step. IsTrue (is_step n step)) steps

-- an entry was routed by the routing data of node i of n, where its event asks a routing
abbrev pub IsRoutedAt : ℕ → ℕ → Entry → Type 0
IsRoutedAt n i entry = entry.asked ≡ asked_at 0 (routing_of n i) (question_of (wish_of (head_of i).terms entry.event))

-- node i of n
pub record IsNode (n i : ℕ) (node : NodeState) : Type 0 where
  pub head : node.head ≡ head_of i
  pub routing : node.routing ≡ routing_of n i
  pub legal : IsConnJournal (head_of i) 0 node.journal
  pub routed : AllByRecursion (IsRoutedAt n i) node.journal

abbrev pub NodesStand : Type 0
NodesStand = (n i : ℕ) (steps : List Step) → AreSteps n steps → 2 ≤ n → 1 ≤ i → i ≤ n → IsNode n i (node_at i (run_of n steps).nodes)
