-- Where nodes in a row send CR (Q.714, 2.4): to the next node, and never back, nor beyond the last one.
use Rattle.std.specs.Prelude.{◌≡◌, ℕ, ◌+◌, ◌≤◌, ◌<◌, List}
use Rattle.std.specs.List.{AllByRecursion}
use Rattle.section_model.specs.Ends.{End, wire, owner, Connection}
use Rattle.chain_step.specs.declared.step.Step.{Step}
use Rattle.chain_step.specs.Run.{node_at, run_of}
use Rattle.passage_law.specs.Nodes.{AreSteps}
use Rattle.passage_law.specs.References.{firsts_of}

-- an end at node i of n is a user's, or a section to the next node
abbrev pub IsOnward : ℕ → ℕ → End → Type 0
IsOnward n i (wire x) = (x.head.point ≡ i + 1) × (i < n)
IsOnward n i (owner u) = Unit {0}

-- each connection of node i goes on to the next node, or to a user
abbrev pub AllGoOn : Type 0
AllGoOn =
    (n i : ℕ) (steps : List Step) → AreSteps n steps → 2 ≤ n → 1 ≤ i → i ≤ n →
    AllByRecursion (λ (c : Connection). IsOnward n i c.that) (firsts_of (node_at i (run_of n steps).nodes))
