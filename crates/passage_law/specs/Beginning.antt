-- At the step of a run that opens a connection by CR from the node before, nothing that the two nodes sent to each other until then names its two sections,
-- or it is ERR or RLC (Q.714, 3.3.2), where no node gave a reference twice.
use Rattle.std.specs.Prelude.{◌≡◌, ℕ, ◌+◌, ◌≤◌, true, List, [], ◌∷◌, ◌++◌}
use Rattle.std.specs.List.{AllByRecursion}
use Rattle.plant_core.specs.declared.entry.Entry.{Entry}
use Rattle.section_model.specs.Lane.{Opening}
use Rattle.hop_law.specs.Waiting.{messages_to}
use Rattle.chain_step.specs.declared.step.Step.{Step}
use Rattle.chain_step.specs.Run.{node_at, run_of}
use Rattle.chain_step.specs.Fresh.{all_fresh}
use Rattle.passage_law.specs.Nodes.{AreSteps}
use Rattle.passage_law.specs.References.{firsts_of}
use Rattle.passage_law.specs.Fair.{Has, AreJoined, AreStrange}

abbrev pub NothingBefore : Type 0
NothingBefore =
    (n i : ℕ) (steps : List Step) (step : Step) → AreSteps n (steps ++ step ∷ []) → 2 ≤ n → 1 ≤ i → i + 1 ≤ n →
    (let r = run_of n steps in
    let later = run_of n (steps ++ step ∷ []) in
    let near = node_at i r.nodes in
    let far = node_at (i + 1) r.nodes in
    all_fresh later ≡ true → (o p : Opening) → Has near o → Has (node_at (i + 1) later.nodes) p → firsts_of (node_at (i + 1) later.nodes) ≡ firsts_of far ++ p.first ∷ [] →
    AreJoined i (i + 1) o.first p.first →
    AllByRecursion (λ (entry : Entry). AreStrange p.first (messages_to (i + 1) entry.outs)) near.journal × AllByRecursion (λ (entry : Entry). AreStrange o.first (messages_to i entry.outs)) far.journal)
