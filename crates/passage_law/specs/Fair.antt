-- What other connections of two neighbours send to each other is strange to a connection that they have with each other (Q.714, 3.3.2), where no node gave a
-- reference twice: it names none of the two sections, or it is ERR or RLC.
use Rattle.std.specs.Prelude.{◌≡◌, ℕ, ◌+◌, ◌≤◌, true, List, [], ◌∷◌, ◌++◌}
use Rattle.std.specs.List.{AllByRecursion}
use Rattle.relay_base.specs.declared.words.Output.{Output}
use Rattle.plant_core.specs.declared.entry.Entry.{Entry}
use Rattle.section_model.specs.Parameters.{arrival_in}
use Rattle.section_model.specs.Ends.{Connection}
use Rattle.section_model.specs.Lane.{Opening, part_of}
use Rattle.hop_law.specs.Waiting.{Waiting, messages_to}
use Rattle.hop_law.specs.Hop.{IsStrange}
use Rattle.chain_step.specs.declared.step.Step.{Step}
use Rattle.chain_step.specs.Run.{NodeState, openings_of, node_at, run_of}
use Rattle.chain_step.specs.Fresh.{all_fresh}
use Rattle.passage_law.specs.Nodes.{AreSteps}
use Rattle.passage_law.specs.References.{IsTo, IsAskedBy}

-- a connection of a node, with those that were opened before it and after it
pub record Has (node : NodeState) (o : Opening) : Type 0 where
  pub before : List Opening
  pub after : List Opening
  pub are : openings_of node ≡ before ++ o ∷ after

-- The section of node j was asked for by that of node i, and the other ends of the two connections are no sections to the other node.
pub record AreJoined (i j : ℕ) (near far : Connection) : Type 0 where
  pub near_reference : ℕ
  pub far_reference : ℕ
  pub asks : IsTo j near_reference near.that
  pub asked : IsAskedBy i near_reference far_reference far.this
  pub near_apart : (mine : ℕ) → IsTo j mine near.this → ⊥
  pub far_apart : (mine : ℕ) → IsTo i mine far.that → ⊥

-- each of these messages names no end of a connection, unless it answers what nobody heard
abbrev pub AreStrange : Connection → List Waiting → Type 0
AreStrange c queue = AllByRecursion (λ (m : Waiting). IsStrange c (arrival_in m.bytes)) queue

-- Outputs are the part of a connection, and others: what these send to a point is strange to the connection there.
pub record HasStrange (c : Connection) (point : ℕ) (part outs : List Output) : Type 0 where
  pub one : List Output
  pub other : List Output
  pub are : outs ≡ one ++ (part ++ other)
  pub before : AreStrange c (messages_to point one)
  pub after : AreStrange c (messages_to point other)

-- an entry that a node has after a step and had not before
abbrev pub IsNewEntry : NodeState → NodeState → Entry → Type 0
IsNewEntry node later entry = later.journal ≡ node.journal ++ entry ∷ []

-- The law, of one more step of a run, at the node that asked and at the one that was asked.
abbrev pub OthersAreStrange : Type 0
OthersAreStrange =
    (n i : ℕ) (steps : List Step) (step : Step) → AreSteps n (steps ++ step ∷ []) → 2 ≤ n → 1 ≤ i → i + 1 ≤ n →
    (let r = run_of n steps in
    let later = run_of n (steps ++ step ∷ []) in
    let near = node_at i r.nodes in
    let far = node_at (i + 1) r.nodes in
    all_fresh later ≡ true → (o p : Opening) → Has near o → Has far p → AreJoined i (i + 1) o.first p.first →
    ((entry : Entry) → IsNewEntry near (node_at i later.nodes) entry
    → HasStrange p.first (i + 1) (part_of near.head.terms.ticks entry.event o) entry.outs)
    × ((entry : Entry) → IsNewEntry far (node_at (i + 1) later.nodes) entry
    → HasStrange o.first i (part_of far.head.terms.ticks entry.event p) entry.outs))
